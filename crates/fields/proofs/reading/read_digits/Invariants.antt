use Rattle.fields.proofs.Hexing.{DigitsRead}
use Rattle.fields.proofs.reading.read_digits.Given as goal

abbrev pub invariant-loop : goal.invariant-loop
invariant-loop l = DigitsRead l.text l.counter l.value l.rest

use Rattle.std.proofs.Common.{is_some, sym, ap, ◌∙◌, arith}
use Rattle.bus.proofs.Busy.{base_low, found_is, its_wait, its_start}
use Rattle.bus.proofs.bus.busy.BusyPeriod.delay.Goals as goal

pub overflow_mul-base : goal.overflow_mul-base
overflow_mul-base c = record { fits = omega (arith, base_low c.args.self.now c.args.q c.requires.within) }

pub overflow_add-base : goal.overflow_add-base
overflow_add-base c = record { fits = omega (arith, base_low c.args.self.now c.args.q c.requires.within) }

pub settle-requires-clause-small : goal.settle-requires-clause-small
settle-requires-clause-small c = omega (arith, base_low c.args.self.now c.args.q c.requires.within)

pub unwrap-requires : goal.unwrap-requires
unwrap-requires c =
    ap is_some (found_is c.args.self.now c.args.q c.requires.within c.settle.result c.settle.ensures.is ∙ (its_wait c.args.self.now c.args.q c.requires.within).1)

pub returns-clause-is : goal.returns-clause-is
returns-clause-is c =
    sym (found_is c.args.self.now c.args.q c.requires.within c.settle.result c.settle.ensures.is) ∙ c.unwrap.ensures

pub returns-clause-begins : goal.returns-clause-begins
returns-clause-begins c =
    its_start c.args.self.now c.args.q c.requires.within c.unwrap.result (sym (found_is c.args.self.now c.args.q c.requires.within c.settle.result c.settle.ensures.is) ∙ c.unwrap.ensures)

-- What a fault of a domain says. Assumes nothing.
use Rattle.std.specs.Prelude.{ℕ, List, codes}
use Rattle.domains.specs.declared.fault.DomainFault.{DomainFault}
use Rattle.domains.specs.declared.fault.DomainFault.TheVariants.{FirstFigure, SecondFigure}

abbrev pub domain_fault_text : DomainFault → List ℕ
domain_fault_text FirstFigure = codes "the first figure of a domain is outside its limits"
domain_fault_text SecondFigure = codes "the second figure of a domain is outside its limits"

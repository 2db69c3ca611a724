-- Answers that are a time or none. Assumes nothing.
use Rattle.std.specs.Prelude.{ℕ, ◌≤◌, Some, None, Option}

-- where the first answer is a time, the second is one too, and does not exceed it
abbrev pub NoLater : Option ℕ → Option ℕ → Type 0
NoLater None u = Unit {0}
NoLater (Some t) None = ⊥
NoLater (Some t) (Some u) = u ≤ t

-- a time is at most n
abbrev pub AtMost : ℕ → Option ℕ → Type 0
AtMost n None = Unit {0}
AtMost n (Some t) = t ≤ n

-- the time, or 0
abbrev pub or_zero : Option ℕ → ℕ
or_zero None = 0
or_zero (Some t) = t

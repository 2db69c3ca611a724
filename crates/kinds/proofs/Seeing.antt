-- What a look at a list gives to a kind. Assumes nothing.
use Rattle.std.proofs.Common.{◌≡◌, ℕ, List, get_or, Option, sym, ap, ◌∙◌, subst, ap₂}
use Rattle.frames.specs.declared.row.Row.{Row}
use Rattle.lists.specs.Items.{items}
use Rattle.streams.specs.declared.stream.Stream.{Stream}
use Rattle.domains.specs.declared.place.Place.{Place}
use Rattle.domains.specs.Asked.{asked, no_row}
use Rattle.kinds.specs.declared.view.Streams.{Streams}
use Rattle.kinds.specs.KindLaws.{KindLaws, Own}
use Rattle.kinds.specs.Looked.{Seen}
use Rattle.kinds.specs.Rows.{stream_by, of_streams}
use Rattle.kinds.proofs.Singles.{own_by}

module _ {D : Type 0} {price : D → ℕ → ℕ} {time : D → Stream → List Stream → List Stream → Option ℕ} (laws : KindLaws price time) (d : D)
    (rows : List Row) (places : List Place) (f : ℕ) (v : Streams) (seen : Seen (price d) rows places f v) where
  pub seen_own : Own (price d) v.own
  seen_own = subst (Own (price d)) (sym seen.own_is) (own_by laws d _ seen.lawful_own)

-- what is made of the streams is what the question is answered
pub seen_is : (price : ℕ → ℕ) (rows : List Row) (places : List Place) (f : ℕ) (v : Streams) → Seen price rows places f v → (m : Stream → List Stream → List Stream → Option ℕ) {s : Stream} {us ls : List Stream} → s ≡ v.own → us ≡ items v.above → ls ≡ items v.below → m s us ls ≡ asked (of_streams price m) rows places f
seen_is price rows places f v seen m {us} {ls} own above below =
    ap (λ (s : Stream). m s us ls) (own ∙ seen.own_is)
    ∙ ap₂ (λ (u l : List Stream). m (stream_by price (get_or rows f no_row)) u l) (above ∙ seen.above_is) (below ∙ seen.below_is)
    ∙ sym (seen.answered (of_streams price m))

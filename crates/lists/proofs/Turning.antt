-- An item is taken out by a turn of the cells from its own on. Assumes nothing.
use Rattle.std.proofs.Common.{◌≡◌, ℕ, suc, ◌+◌, ◌-◌, ◌<◌, ◌≤◌, List, ◌++◌, length, take, drop, sym, ap, ap₂, ◌∙◌, append_assoc, arith, length-append, length-take, length-drop, take_at, take-take, drop-drop, length-take-le}
use Rattle.std.specs.List.{remove}
use Rattle.std.proofs.lemmas.List.{drop-take}
use borrow.Rule.Slice.PartMut.{mid_of, post_of, put_mid}

-- the first n cells are the list, and cells i to n are turned by one
pub remove_turned : {X : Type 0} (i n : ℕ) (xs ys : List X) → i < n → n ≤ length xs → ys ≡ drop 1 (mid_of i (n - i) xs) ++ take 1 (mid_of i (n - i) xs) → take (n - 1) (put_mid i (n - i) xs ys) ≡ remove (take n xs) i
remove_turned {X} i n xs ys within few turned =
    let m : ℕ = n - suc i in
    let one : n - i ≡ 1 + m = omega arith in
    let on : suc i + m ≡ n = omega arith in
    let next : i + 1 ≡ suc i = omega arith in
    let after : drop 1 (mid_of i (n - i) xs) ≡ take m (drop (suc i) xs) =
    ap (λ k. drop 1 (take k (drop i xs))) one ∙ drop-take 1 m (drop i xs) ∙ ap (take m) (drop-drop 1 i xs ∙ ap (λ k. drop k xs) next) in
    let front : length (take i xs ++ take m (drop (suc i) xs)) ≡ n - 1 =
    omega (arith, length-append (take i xs) (take m (drop (suc i) xs)), length-take-le i xs (omega arith), length-take m (drop (suc i) xs), length-drop (suc i) xs) in
    ap (take (n - 1)) (
    ap (λ l. take i xs ++ (l ++ post_of i (n - i) xs)) (turned ∙ ap (λ l. l ++ take 1 (mid_of i (n - i) xs)) after)
    ∙ ap (λ l. take i xs ++ l) (append_assoc (take m (drop (suc i) xs)) _ _)
    ∙ sym (append_assoc (take i xs) (take m (drop (suc i) xs)) _))
    ∙ take_at _ _ (n - 1) front
    ∙ sym (ap₂ (λ (a b : List X). a ++ b) (take-take i n xs (omega arith)) (ap (λ k. drop (suc i) (take k xs)) (sym on) ∙ drop-take (suc i) m xs))

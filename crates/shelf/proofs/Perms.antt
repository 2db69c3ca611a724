-- What the order of a list does not change. Assumes nothing.
use Rattle.std.proofs.Common.{◌≡◌, ℕ, suc, ◌+◌, min, max, Bool, ◌&&◌, ◌⊎◌, List, [], ◌∷◌, ◌++◌, map, reverse, length, sum_by, sym, refl, ap, ◌∙◌, subst, inl, inr, append-nil, arith}
use mathlib.Core.List.{reverse_aux, nil≢cons}
use Rattle.std.specs.List.{AllByRecursion}
use Rattle.std.proofs.lemmas.List.Sums.{sum_by-cons}
use Rattle.shelf.specs.Apart.{Apart}
use Rattle.shelf.specs.Folds.{every, least, most}
use Rattle.shelf.specs.Picks.{Pick, Perm}
use Rattle.shelf.specs.Picks.Pick.{here, there}
use Rattle.shelf.specs.Picks.Perm.{done, next}

module _ {X : Type 0} where
  pub diamond : {x y : X} {xs a b : List X} → Pick x xs a → Pick y xs b → ((x ≡ y) × (a ≡ b)) ⊎ ((s : List X) × Pick y a s × Pick x b s)
  diamond (here e) (here f) = inl (e ∙ sym f, refl)
  diamond (here e) (there {r = s} q) = inr (s, q, here e)
  diamond (there {r = s} p) (here f) = inr (s, here f, p)
  diamond (there {y = z} p) (there q) = step (diamond p q)
    where
      step : {x y : X} {a b : List X} → ((x ≡ y) × (a ≡ b)) ⊎ ((s : List X) × Pick y a s × Pick x b s) → ((x ≡ y) × (◌≡◌ {A = List X} (z ∷ a) (z ∷ b))) ⊎ ((s : List X) × Pick y (z ∷ a) s × Pick x (z ∷ b) s)
      step (inl h) = inl (h.0, ap (λ l. z ∷ l) h.1)
      step (inr h) = inr (z ∷ h.0, there h.1, there h.2)

  pub exchange : {x y : X} {xs r s : List X} → Pick x xs r → Pick y r s → (q : List X) × Pick y xs q × Pick x q s
  exchange {s = s} (here {y = z} e) q = (z ∷ s, there q, here e)
  exchange (there {xs = xs} p) (here f) = (xs, here f, p)
  exchange (there {y = z} p) (there q) = let h = exchange p q in (z ∷ h.0, there h.1, there h.2)

  pub perm_refl : (xs : List X) → Perm xs xs
  perm_refl [] = done
  perm_refl (x ∷ xs) = next (here refl) (perm_refl xs)

  pub pick_middle : (x : X) (us ls : List X) → Pick x (us ++ (x ∷ ls)) (us ++ ls)
  pick_middle x [] ls = here refl
  pick_middle x (u ∷ us) ls = there (pick_middle x us ls)

  pub pick_length : {x : X} {xs r : List X} → Pick x xs r → length xs ≡ suc (length r)
  pick_length (here e) = refl
  pick_length (there p) = ap suc (pick_length p)

  pub perm_length : {xs ys : List X} → Perm xs ys → length xs ≡ length ys
  perm_length done = refl
  perm_length (next p q) = pick_length p ∙ ap suc (perm_length q)

  -- where it stands
  pub pick_split : {x : X} {xs r : List X} → Pick x xs r → (us : List X) × (ls : List X) × (xs ≡ us ++ (x ∷ ls))
  pick_split (here {r = r} e) = ([], r, ap (λ z. z ∷ r) (sym e))
  pick_split (there {y = y} p) = let h = pick_split p in (y ∷ h.0, h.1, ap (λ l. y ∷ l) h.2)

  -- what holds of each element holds of one that is in the list
  pub all_pick : (P : X → Type 0) {x : X} {xs r : List X} → AllByRecursion P xs → Pick x xs r → P x
  all_pick P h (here e) = subst P (sym e) h.0
  all_pick P h (there p) = all_pick P h.1 p

  pub all_less : (P : X → Type 0) {x : X} {xs r : List X} → AllByRecursion P xs → Pick x xs r → AllByRecursion P r
  all_less P h (here e) = h.1
  all_less P h (there p) = (h.0, all_less P h.1 p)

  pub all_perm : (P : X → Type 0) {xs ys : List X} → AllByRecursion P xs → Perm xs ys → AllByRecursion P ys
  all_perm P h done = tt
  all_perm P h (next p q) = (all_pick P h p, all_perm P (all_less P h p) q)

  pick_apart : {x : X} {xs r : List X} → Apart xs → Pick x xs r → AllByRecursion (λ z. z ≡ x → ⊥) r × Apart r
  pick_apart a (here {r = r} e) = (subst (λ q. AllByRecursion (λ z. z ≡ q → ⊥) r) (sym e) a.0, a.1)
  pick_apart a (there {y = y} p) =
      let h = pick_apart a.1 p in
      ((λ e. all_pick (λ z. z ≡ y → ⊥) a.0 p (sym e), h.0), (all_less (λ z. z ≡ y → ⊥) a.0 p, h.1))

  pub apart_perm : {xs ys : List X} → Apart xs → Perm xs ys → Apart ys
  apart_perm a done = tt
  apart_perm a (next {x = x} p q) =
      let h = pick_apart a p in (all_perm (λ z. z ≡ x → ⊥) h.0 q, apart_perm h.1 q)

  -- x put in on both sides, wherever it stands
  pub insert : {x : X} {ys ys' : List X} → Pick x ys' ys → {xs r : List X} → Pick x xs r → Perm r ys → Perm xs ys'
  insert (here {r = zs} e) {xs} p q = subst (λ y. Perm xs (y ∷ zs)) e (next p q)
  insert (there k) p (next u q) = let h = exchange p u in next h.1 (insert k h.2 q)

  pub perm_sym : {xs ys : List X} → Perm xs ys → Perm ys xs
  perm_sym done = done
  perm_sym (next p q) = insert p (here refl) (perm_sym q)

  -- x taken out of both
  pub taken : {x : X} {xs ys : List X} → Perm xs ys → {xs' : List X} → Pick x xs xs' → (ys' : List X) × Pick x ys ys' × Perm xs' ys'
  taken done k = elim k [ ]
  taken {x} (next {x = y} {ys = ys} p q) {xs'} k = step (diamond k p) q (λ s. taken q)
    where
      step : {b : List X} → ((x ≡ y) × (xs' ≡ b)) ⊎ ((s : List X) × Pick y xs' s × Pick x b s) → Perm b ys → ((s : List X) → Pick x b s → (ys' : List X) × Pick x ys ys' × Perm s ys') → (ys' : List X) × Pick x (y ∷ ys) ys' × Perm xs' ys'
      step (inl h) q ih = (ys, here h.0, subst (λ l. Perm l ys) (sym h.1) q)
      step (inr h) q ih = let i = ih h.0 h.2 in (y ∷ i.0, there i.1, next h.1 i.2)

  chain : {ys zs : List X} → Perm ys zs → {xs : List X} → Perm ys xs → Perm xs zs
  chain done done = done
  chain done (next p q) = elim p [ ]
  chain (next p q) r = let h = taken r p in next h.1 (chain q h.2)

  pub perm_trans : {xs ys zs : List X} → Perm xs ys → Perm ys zs → Perm xs zs
  perm_trans p q = chain q (perm_sym p)

  pub perm_middle : (x : X) (us ls : List X) → Perm (x ∷ (us ++ ls)) (us ++ (x ∷ ls))
  perm_middle x us ls = insert (pick_middle x us ls) (here refl) (perm_refl (us ++ ls))

  pub perm_onto : (zs ls : List X) → Perm (zs ++ ls) (reverse_aux zs ls)
  perm_onto [] ls = perm_refl ls
  perm_onto (z ∷ zs) ls = perm_trans (perm_middle z zs ls) (perm_onto zs (z ∷ ls))

  pub reversed : (zs : List X) → Perm zs (reverse zs)
  reversed zs = rw append-nil at (perm_onto zs [])

  -- an element goes to the front
  pub perm_front : (x : X) (us ls : List X) → Perm (us ++ (x ∷ ls)) (x ∷ (us ++ ls))
  perm_front x us ls = next (pick_middle x us ls) (perm_refl (us ++ ls))

  pub perm_picked : {x : X} {xs r : List X} → Pick x xs r → Perm xs (x ∷ r)
  perm_picked {r = r} p = next p (perm_refl r)

  pub perm_cons : (x : X) {xs ys : List X} → Perm xs ys → Perm (x ∷ xs) (x ∷ ys)
  perm_cons x p = next (here refl) p

  pub perm_swap : (x y : X) (xs : List X) → Perm (x ∷ (y ∷ xs)) (y ∷ (x ∷ xs))
  perm_swap x y xs = next (there (here refl)) (perm_refl (x ∷ xs))

module _ {X Y : Type 0} (f : X → Y) where
  pub pick_map : {x : X} {xs r : List X} → Pick x xs r → Pick (f x) (map f xs) (map f r)
  pick_map (here e) = here (ap f e)
  pick_map (there p) = there (pick_map p)

  pub perm_map : {xs ys : List X} → Perm xs ys → Perm (map f xs) (map f ys)
  perm_map done = done
  perm_map (next p q) = next (pick_map p) (perm_map q)

  -- back: what is picked of the images is the image of one that is picked
  pub pick_back : {y : Y} (xs : List X) {r : List Y} → Pick y (map f xs) r → (x : X) × (s : List X) × Pick x xs s × (y ≡ f x) × (r ≡ map f s)
  pick_back [] p = elim p [ ]
  pick_back (x ∷ xs) (here e) = (x, xs, here refl, e, refl)
  pick_back (x ∷ xs) (there p) = let h = pick_back xs p in (h.0, x ∷ h.1, there h.2, h.3, ap (λ l. f x ∷ l) h.4)

  pub perm_back : {ys l : List Y} → Perm l ys → (xs : List X) → l ≡ map f xs → (zs : List X) × Perm xs zs × (ys ≡ map f zs)
  perm_back done [] e = ([], done, refl)
  perm_back done (x ∷ xs) e = absurd (nil≢cons e)
  perm_back (next {x = y} {r = r} {ys = ys} p q) xs e =
      let h = pick_back xs (subst (λ l. Pick y l r) e p) in
      let k = perm_back q h.1 h.4 in
      let head = h.3 in
      let tail = k.2 in
      (h.0 ∷ k.0, next h.2 k.1, cc)

-- an element is known by its number, where no number is there twice
pub pick_known : {X : Type 0} (f : X → ℕ) {x y : X} {xs r q : List X} → Apart (map f xs) → Pick x xs r → Pick y xs q → f x ≡ f y → x ≡ y
pick_known f a (here d) (here e) n = d ∙ sym e
pick_known f a (here d) (there q) n = absurd (all_pick _ a.0 (pick_map f q) (sym n ∙ ap f d))
pick_known f a (there p) (here e) n = absurd (all_pick _ a.0 (pick_map f p) (n ∙ ap f e))
pick_known f a (there p) (there q) n = pick_known f a.1 p q n

-- a fold that does not mind which of two elements comes first
module _ {X Y : Type 0} (fold : List X → Y) (add : X → Y → Y) (more : (x : X) (xs : List X) → fold (x ∷ xs) ≡ add x (fold xs)) (swap : (x y : X) (z : Y) → add x (add y z) ≡ add y (add x z)) where
  pick_fold : {x : X} {xs r : List X} → Pick x xs r → fold xs ≡ add x (fold r)
  pick_fold (here {y = y} {r = r} e) = more y r ∙ ap (λ z. add z (fold r)) (sym e)
  pick_fold {x} (there {y = y} {xs = xs} {r = r} p) =
      more y xs ∙ ap (add y) (pick_fold p) ∙ swap y x (fold r) ∙ ap (add x) (sym (more y r))

  perm_fold : {xs ys : List X} → Perm xs ys → fold xs ≡ fold ys
  perm_fold done = refl
  perm_fold (next {x = x} {ys = ys} p q) = pick_fold p ∙ ap (add x) (perm_fold q) ∙ sym (more x ys)

module _ {X : Type 0} where
  pub perm_sum : (f : X → ℕ) {xs ys : List X} → Perm xs ys → sum_by f xs ≡ sum_by f ys
  perm_sum f p = perm_fold (sum_by f) (λ x n. f x + n) (sum_by-cons f) (λ x y n. omega arith) p

  pub perm_least : (f : X → ℕ) (m : ℕ) {xs ys : List X} → Perm xs ys → least f m xs ≡ least f m ys
  perm_least f m p = perm_fold (least f m) (λ x n. min (f x) n) (λ x xs. refl) (λ x y n. omega arith) p

  pub perm_most : (f : X → ℕ) {xs ys : List X} → Perm xs ys → most f xs ≡ most f ys
  perm_most f p = perm_fold (most f) (λ x n. max (f x) n) (λ x xs. refl) (λ x y n. omega arith) p

  pub perm_every : (t : X → Bool) {xs ys : List X} → Perm xs ys → every t xs ≡ every t ys
  perm_every t p = perm_fold (every t) (λ x b. t x && b) (λ x xs. refl) (λ x y b. grind arith) p

-- The laws of the names in sight, for every type of entry.
use Rattle.std.proofs.Common.{◌≡◌, ℕ, zero, suc, ◌+◌, ◌-◌, ◌<◌, ◌≤◌, Bool, true, false, cond, eqb, leb, ◌⊎◌, List, [], ◌∷◌, length, get_or, set, Some, None, Option, sym, refl, ap, ◌∙◌, subst, ap₂, inl, inr, ⊎_elim, add-one, arith}
use Rattle.std.specs.List.{slice_get}
use Rattle.std.proofs.lemmas.Option.{slice_get_read}
use Rattle.std.proofs.lemmas.Bool.{eq-eqb, ne_eqb, le-leb, lt-leb, cond-true, cond-false, cases_eq}
use Rattle.language.specs.Same.{same}
use Rattle.language.specs.Sight.{Sight, look}
use Rattle.scope.specs.declared.Record.{Record}
use Rattle.scope.specs.Sight.{step, scan, in_sight, Down}
use Rattle.scope.specs.Calls.{latest, entered}

pub get_set_same : {X : Type 0} (xs : List X) (i : ℕ) (x : X) → i < length xs → slice_get (set xs i x) i ≡ Some x
get_set_same [] i x h = absurd (omega arith)
get_set_same (y ∷ ys) zero x h = refl
get_set_same (y ∷ ys) (suc i) x h = get_set_same ys i x (omega arith)

pub get_set_other : {X : Type 0} (xs : List X) (i j : ℕ) (x : X) → (j ≡ i → ⊥) → slice_get (set xs i x) j ≡ slice_get xs j
get_set_other [] i j x h = refl
get_set_other (y ∷ ys) zero zero x h = absurd (h refl)
get_set_other (y ∷ ys) zero (suc j) x h = refl
get_set_other (y ∷ ys) (suc i) zero x h = refl
get_set_other (y ∷ ys) (suc i) (suc j) x h = get_set_other ys i j x (λ e. h (ap suc e))

module _ {E : Type 0} where
  scan_take : (rs : List (Record E)) (k : ℕ) → scan rs (suc k) (suc k) ≡ step (slice_get rs k) (scan rs k)
  unfolding scan
  scan_take rs k = cond-true _ _ _ (eq-eqb (suc k) (suc k) refl)

  scan_pass : (rs : List (Record E)) (k h : ℕ) → (h ≡ suc k → ⊥) → scan rs (suc k) h ≡ scan rs k h
  unfolding scan
  scan_pass rs k h ne = cond-false _ _ _ (ne_eqb h (suc k) ne)

  scan_at : (rs : List (Record E)) (k h : ℕ) → h ≤ k → scan rs k h ≡ in_sight rs h
  scan_at rs zero h le = let e : h ≡ 0 = omega arith in rw e
  scan_at rs (suc k) h le =
      ⊎_elim (λ (e : h ≡ suc k). rw e)
      (λ (ne : h ≡ suc k → ⊥). scan_pass rs k h ne ∙ scan_at rs k h (omega arith)) (cases_eq h (suc k))

  -- one step along the chain
  pub sight_step : (rs : List (Record E)) (i : ℕ) (r : Record E) → slice_get rs i ≡ Some r → r.next ≤ i
      → in_sight rs (i + 1) ≡ (r.name, r.entry) ∷ in_sight rs r.next
  sight_step rs i r e le =
      rw (add-one, scan_take, e) (ap (λ l. (r.name, r.entry) ∷ l) (scan_at rs i r.next le))

  step_alike : (o : Option (Record E)) (f f' : ℕ → Sight E) → ((h : ℕ) → f h ≡ f' h) → step o f ≡ step o f'
  step_alike None f f' e = refl
  step_alike (Some q) f f' e = ap (λ l. (q.name, q.entry) ∷ l) (e q.next)

  scan_alike : (rs rs' : List (Record E)) (k h : ℕ) → ((i : ℕ) → i < k → slice_get rs i ≡ slice_get rs' i) → scan rs k h ≡ scan rs' k h
  unfolding scan
  scan_alike rs rs' zero h e = refl
  scan_alike rs rs' (suc k) h e =
      ap₂ (cond (eqb h (suc k)))
      (ap (λ o. step o (scan rs k)) (e k (omega arith)) ∙ step_alike (slice_get rs' k) _ _ (λ j. scan_alike rs rs' k j (λ i lt. e i (omega arith))))
      (scan_alike rs rs' k h (λ i lt. e i (omega arith)))

  -- lists that agree on their first h records have the same in sight from h
  pub sight_alike : (rs rs' : List (Record E)) (h : ℕ) → ((i : ℕ) → i < h → slice_get rs i ≡ slice_get rs' i) → in_sight rs h ≡ in_sight rs' h
  sight_alike rs rs' h e = scan_alike rs rs' h h e

  -- a record at i or above is not in sight from i
  pub sight_older : (rs : List (Record E)) (i h : ℕ) (r : Record E) → h ≤ i → in_sight (set rs i r) h ≡ in_sight rs h
  sight_older rs i h r le = sight_alike (set rs i r) rs h (λ j lt. get_set_other rs i j r (λ e. omega arith))

  -- a record that is put at i is the first in sight from i + 1
  pub sight_enter : (rs : List (Record E)) (i : ℕ) (r : Record E) → i < length rs → r.next ≤ i
      → in_sight (set rs i r) (i + 1) ≡ (r.name, r.entry) ∷ in_sight rs r.next
  sight_enter rs i r lt le =
      sight_step (set rs i r) i r (get_set_same rs i r lt) le ∙ ap (λ l. (r.name, r.entry) ∷ l) (sight_older rs i r.next r le)

  pub down_set : (rs : List (Record E)) (i : ℕ) (r : Record E) → i < length rs → r.next ≤ i → Down rs i → Down (set rs i r) (i + 1)
  down_set rs i r lt le d j q jlt e =
      ⊎_elim (λ (same : j ≡ i).
      let s : Some q ≡ Some r = sym e ∙ ap (slice_get (set rs i r)) same ∙ get_set_same rs i r lt in
      let qr : q ≡ r = cc in rw (qr, same) le)
      (λ (ne : j ≡ i → ⊥). d j q (omega arith) (sym (get_set_other rs i j r ne) ∙ e)) (cases_eq j i)

  pub down_less : (rs : List (Record E)) (i j : ℕ) → j ≤ i → Down rs i → Down rs j
  down_less rs i j le d k q lt e = d k q (omega arith) e

  -- one turn of a search along the chain: at a record r read at index h - 1
  pub turn : (rs : List (Record E)) (h top : ℕ) (r : Record E) → 0 < h → h ≤ top → top ≤ length rs → Down rs top → r ≡ get_or rs (h - 1) r
      → (r.next < h) × (in_sight rs h ≡ (r.name, r.entry) ∷ in_sight rs r.next)
  turn rs h top r pos le room d read =
      let at : slice_get rs (h - 1) ≡ Some r = slice_get_read rs (length rs) (h - 1) r refl (omega arith) read in
      let low : r.next ≤ h - 1 = d (h - 1) r (omega arith) at in
      let e : (h - 1) + 1 ≡ h = omega arith in
      (omega arith, subst (λ (k : ℕ). in_sight rs k ≡ (r.name, r.entry) ∷ in_sight rs r.next) e (sight_step rs (h - 1) r at low))

  -- nothing is in sight from 0
  pub sight_zero : (rs : List (Record E)) (h : ℕ) → h ≡ 0 → in_sight rs h ≡ []
  unfolding scan
  sight_zero rs h e = rw e refl

  -- the latest in sight from a position is the record there
  pub latest_at : (rs : List (Record E)) (p top : ℕ) (r : Record E) → 0 < p → p ≤ top → top ≤ length rs → Down rs top → r ≡ get_or rs (p - 1) r
      → entered rs top p ≡ Some r.entry
  latest_at rs p top r pos le room d read = rw (le-leb p top le) (ap latest (turn rs p top r pos le room d read).1)

  pub latest_none : (rs : List (Record E)) (p top : ℕ) → (p ≡ 0) ⊎ ((p ≡ 0 → ⊥) × (top < p)) → entered rs top p ≡ None
  latest_none rs p top (inl z) = let s : in_sight rs p ≡ [] = sight_zero rs p z in rw (s, le-leb p top (omega arith)) refl
  latest_none rs p top (inr h) = let n : leb p top ≡ false = lt-leb p top h.1 in rw n refl

  -- a look at the head of a sight
  pub look_here : (n : ℕ) (p : ℕ × E) (ps qs : Sight E) (b : Bool) → qs ≡ p ∷ ps → b ≡ same n p.0 → b ≡ true → look n qs ≡ Some p.1
  look_here n p ps qs b e test t = rw e (cond-true _ _ _ (sym test ∙ t))

  pub look_on : (n : ℕ) (p : ℕ × E) (ps qs : Sight E) (b : Bool) → qs ≡ p ∷ ps → b ≡ same n p.0 → b ≡ false → look n qs ≡ look n ps
  look_on n p ps qs b e test f = rw e (cond-false _ _ _ (sym test ∙ f))

  pub look_none : (n : ℕ) (rs : List (Record E)) (h : ℕ) → h ≤ 0 → look n (in_sight rs h) ≡ None
  unfolding scan
  look_none n rs h le = let e : h ≡ 0 = omega arith in rw e

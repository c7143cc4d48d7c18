-- What a pass over the points comes to. Assumes nothing.
use Rattle.std.proofs.Common.{◌≡◌, ℕ, zero, suc, ◌+◌, ◌<◌, ◌≤◌, Bool, true, false, cond, List, [], ◌∷◌, ◌++◌, map, length, get_or, take, set, replicate, ℤ, pos, Some, None, Ok, Err, Option, Result, rules, sym, refl, ap, ◌∙◌, subst, ap₂, arith}
use Rattle.std.specs.Prelude.{not, position}
use Rattle.std.specs.List.{position_from}
use Rattle.std.proofs.lemmas.Iterator.Adapters.{position_from-zero}
use Rattle.std.specs.Result.{IsOk}
use mathlib.Core.Path.{fun_ext}
use Rattle.std.proofs.lemmas.List.{length-map, length-take-le, length-replicate, length_push, take_more_set, map_push, replicate_more, get_or-map, get_or-take}
use Rattle.language.specs.declared.values.Value.{Value}
use Rattle.language.specs.declared.values.Value.TheVariants.{Whole as whole_value}
use Rattle.language.specs.Memory.{Memory, put, live}
use Rattle.store.specs.declared.Full.{Full}
use Rattle.store.specs.declared.WriteRefusal.{WriteRefusal}
use Rattle.store.specs.Calls.{Taken, write_answer, after_call}
use Rattle.piece.specs.declared.points.Point.{Point}
use Rattle.history.specs.States.{holding, Apart, Free, after_true, lowest_false}
use Rattle.piece.specs.Views.{shift_in, HoldsShift, AllHoldShifts, locations, shifts, remembered, marks, remembering, Placed}
use Rattle.history.proofs.Held.{held_at, held_count, apart_of, holding_push, free_push, holding_set}
use Rattle.piece.proofs.Fronts.{front, front_at, front_more, front_all, front_long}

-- the element that a read past the end would give
abbrev pub blank : Point
blank = record { location = 0; remembered = pos 0; graded = false }

-- a write of a shift where there is one
pub writes : (r : Result (Unit {0}) WriteRefusal) (o : Option Value) (y z : ℤ) → r ≡ write_answer o (whole_value z) → o ≡ Some (whole_value y) → IsOk r
writes r o y z q e = let h : r ≡ Ok tt = q ∙ ap (λ (v : Option Value). write_answer v (whole_value z)) e in search rules

pub written : (r : Result (Unit {0}) WriteRefusal) (σ τ : Memory) (l : ℕ) (z z' : ℤ) → r ≡ Ok tt → τ ≡ after_call r σ l (Some (whole_value z)) → z ≡ z' → τ ≡ put σ l (Some (whole_value z'))
written r σ τ l z z' e h q = h ∙ ap (λ (x : Result (Unit {0}) WriteRefusal). after_call x σ l (Some (whole_value z))) e ∙ ap (λ (v : ℤ). put σ l (Some (whole_value v))) q

-- locations are taken
pub placed_none : (σ : Memory) → ((l : ℕ) → σ l ≡ None) → Placed σ []
placed_none σ e = record { free = tt; held = fun_ext e }

pub placed_live : (σ : Memory) (ps : List Point) → Placed σ ps → live σ ≡ length ps
placed_live σ ps p =
    ap live p.held
    ∙ held_count (locations ps) (replicate (length ps) (pos 0)) p.free (length-replicate (length ps) (pos 0) ∙ sym (length-map ps _))
    ∙ length-map ps _

push : (σ σ' : Memory) (ps : List Point) (x : Point) → Placed σ ps → x.location < 65536 → σ x.location ≡ None
    → σ' ≡ put σ x.location (Some (whole_value (pos 0))) → Placed σ' (ps ++ x ∷ [])
push σ σ' ps x p low new after =
    let ls = locations ps in
    let zs = replicate (length ps) (pos 0) in
    let e : length zs ≡ length ls = length-replicate (length ps) (pos 0) ∙ sym (length-map ps _) in
    let a : Apart x.location ls = apart_of x.location ls zs e (ap (λ (τ : Memory). τ x.location) (sym p.held) ∙ new) in
    let m : locations (ps ++ x ∷ []) ≡ ls ++ x.location ∷ [] = map_push (λ (y : Point). y.location) ps x in
    let r : replicate (length (ps ++ x ∷ [])) (pos 0) ≡ zs ++ pos 0 ∷ [] = ap (λ n. replicate n (pos 0)) (length_push ps x) ∙ sym (replicate_more (length ps) (pos 0)) in
    record {
      free = subst Free (sym m) (free_push ls x.location p.free low a);
      held = after ∙ ap (λ (τ : Memory). put τ x.location (Some (whole_value (pos 0)))) p.held ∙ sym (holding_push ls zs x.location (pos 0) e a) ∙ ap₂ holding (sym m) (sym r);
    }

pub placed_more : (σ σ' : Memory) (ps : List Point) (i : ℕ) (x : Point) → Placed σ (take i ps) → i < length ps → x.location < 65536 → σ x.location ≡ None
    → σ' ≡ put σ x.location (Some (whole_value (pos 0))) → Placed σ' (take (i + 1) (set ps i x))
placed_more σ σ' ps i x p h low new after = subst (Placed σ') (sym (take_more_set ps i x h)) (push σ σ' (take i ps) x p low new after)

pub placed_room : (σ : Memory) (ps : List Point) (i limit : ℕ) → Placed σ (take i ps) → i ≤ length ps → i < limit → live σ ≡ limit → ⊥
placed_room σ ps i limit p h room full =
    let e = placed_live σ (take i ps) p in
    let l = length-take-le i ps h in
    omega arith

-- a store with room beside the points placed so far takes one more
pub placed_takes : (σ τ : Memory) (ps : List Point) (i limit : ℕ) (v : Value) (r : Result ℕ Full) → Placed σ (take i ps) → i ≤ length ps → i < limit → Taken limit σ τ v r → IsOk r
placed_takes σ τ ps i limit v (Ok l) p h room t = search rules
placed_takes σ τ ps i limit v (Err e) p h room t = absurd (placed_room σ ps i limit p h room t.0)

pub taken_at : (limit : ℕ) (σ τ : Memory) (v : Value) (r : Result ℕ Full) (l : ℕ) → r ≡ Ok l → Taken limit σ τ v r → Taken limit σ τ v (Ok l)
taken_at limit σ τ v r l e t = subst (Taken limit σ τ v) e t

-- shifts are remembered: the first i points are done, and the others as they were
abbrev pub Remembered : Memory → List Point → List Point → ℕ → Type 0
Remembered σ ps qs i = qs ≡ front i (map (remembering σ) ps) ps

shift_there : (σ : Memory) (ps : List Point) (i : ℕ) → AllHoldShifts σ ps → i < length ps → HoldsShift σ (get_or ps i blank).location
shift_there σ [] i a h = absurd (omega arith)
shift_there σ (x ∷ ps) zero a h = a.0
shift_there σ (x ∷ ps) (suc i) a h = shift_there σ ps i a.1 (omega arith)

module _ (σ : Memory) (ps qs : List Point) (i : ℕ) (e : Remembered σ ps qs i) (h : i < length ps) where
  same_point : get_or qs i blank ≡ get_or ps i blank
  same_point = ap (λ (rs : List Point). get_or rs i blank) e ∙ front_at (map (remembering σ) ps) ps i blank (length-map ps _) h

  pub remember_whole : (n : ℕ) → n ≤ length ps → i < n → AllHoldShifts σ (take n ps) → HoldsShift σ (get_or qs i blank).location
  remember_whole n w l whole =
      subst (λ (x : Point). HoldsShift σ x.location) (get_or-take n ps i blank l ∙ sym same_point)
      (shift_there σ (take n ps) i whole (let t = length-take-le n ps w in omega arith))

  pub remember_more : (z : ℤ) → z ≡ shift_in (σ (get_or qs i blank).location)
      → Remembered σ ps (set qs i (record { location = (get_or qs i blank).location; remembered = z; graded = false })) (i + 1)
  remember_more z ez =
      ap (λ (v : ℤ). set qs i (record { location = (get_or qs i blank).location; remembered = v; graded = false })) ez
      ∙ ap (λ (x : Point). set qs i (remembering σ x)) same_point
      ∙ ap₂ (λ (rs : List Point) (y : Point). set rs i y) e (sym (get_or-map (remembering σ) ps i blank blank h))
      ∙ front_more (map (remembering σ) ps) ps i blank (length-map ps _) h

-- remembered shifts are put back
abbrev pub Half : Memory → Memory → List Point → ℕ → Type 0
Half σ₀ σ ps i = σ ≡ holding (locations ps) (front i (remembered ps) (shifts σ₀ ps))

module _ (σ₀ σ : Memory) (ps : List Point) (i : ℕ) (f : Free (locations ps)) (e : Half σ₀ σ ps i) (h : i < length ps) where
  as_long : length (remembered ps) ≡ length (shifts σ₀ ps)
  as_long = length-map ps _ ∙ sym (length-map ps _)

  past : i < length (shifts σ₀ ps)
  past = let l = length-map ps (λ (x : Point). shift_in (σ₀ x.location)) in omega arith

  whole : length (front i (remembered ps) (shifts σ₀ ps)) ≡ length (locations ps)
  whole = front_long (remembered ps) (shifts σ₀ ps) i as_long (let l = past in omega arith) ∙ length-map ps _ ∙ sym (length-map ps _)

  in_list : i < length (locations ps)
  in_list = let l = length-map ps (λ (x : Point). x.location) in omega arith

  there : get_or (locations ps) i 0 ≡ (get_or ps i blank).location
  there = get_or-map (λ (x : Point). x.location) ps i blank 0 h

  pub back_writes : (z : ℤ) (r : Result (Unit {0}) WriteRefusal) → r ≡ write_answer (σ (get_or ps i blank).location) (whole_value z) → IsOk r
  back_writes z r q =
      writes r (σ (get_or ps i blank).location) (get_or (front i (remembered ps) (shifts σ₀ ps)) i (pos 0)) z q
      (ap σ (sym there) ∙ ap (λ (τ : Memory). τ (get_or (locations ps) i 0)) e ∙ held_at (locations ps) (front i (remembered ps) (shifts σ₀ ps)) i f whole in_list)

  pub back_more : (σ' : Memory) → σ' ≡ put σ (get_or ps i blank).location (Some (whole_value (get_or ps i blank).remembered)) → Half σ₀ σ' ps (i + 1)
  back_more σ' after =
      let z = (get_or ps i blank).remembered in
      after
      ∙ ap₂ (λ (τ : Memory) (l : ℕ). put τ l (Some (whole_value z))) e (sym there)
      ∙ holding_set (locations ps) (front i (remembered ps) (shifts σ₀ ps)) i z f whole in_list
      ∙ ap (λ (v : ℤ). holding (locations ps) (set (front i (remembered ps) (shifts σ₀ ps)) i v)) (sym (get_or-map (λ (x : Point). x.remembered) ps i blank (pos 0) h))
      ∙ ap (holding (locations ps)) (front_more (remembered ps) (shifts σ₀ ps) i (pos 0) as_long past)

pub back_all : (σ₀ σ : Memory) (ps : List Point) (i : ℕ) → Half σ₀ σ ps i → length ps ≤ i → σ ≡ holding (locations ps) (remembered ps)
back_all σ₀ σ ps i e h =
    e ∙ ap (holding (locations ps)) (front_all (remembered ps) (shifts σ₀ ps) i (length-map ps _ ∙ sym (length-map ps _)) (subst (λ n. n ≤ i) (sym (length-map ps _)) h))

-- the lowest point that is not graded
pub none_false : (gs : List Bool) → ((k : ℕ) → k < length gs → get_or gs k false ≡ true) → lowest_false gs ≡ None
none_false [] h = refl
none_false (x ∷ gs) h =
    ap (λ b. cond b (after_true (lowest_false gs)) (Some 0)) (h 0 (omega arith)) ∙ ap after_true (none_false gs (λ k b. h (suc k) (omega arith)))

pub false_at : (gs : List Bool) (i : ℕ) → i < length gs → ((k : ℕ) → k < i → get_or gs k false ≡ true) → get_or gs i false ≡ false → lowest_false gs ≡ Some i
false_at [] i h b e = absurd (omega arith)
false_at (x ∷ gs) zero h b e = ap (λ y. cond y (after_true (lowest_false gs)) (Some 0)) e
false_at (x ∷ gs) (suc i) h b e =
    ap (λ y. cond y (after_true (lowest_false gs)) (Some 0)) (b 0 (omega arith)) ∙ ap after_true (false_at gs i (omega arith) (λ k l. b (suc k) (omega arith)) e)

further : ℕ → Option ℕ → Option ℕ
further i None = None
further i (Some k) = Some (i + k)

further_after : (i : ℕ) (o : Option ℕ) → further (i + 1) o ≡ further i (after_true o)
unfolding further
further_after i None = refl
further_after i (Some k) = let e : i + 1 + k ≡ i + suc k = omega arith in ap Some e

further_zero : (o : Option ℕ) → further 0 o ≡ o
unfolding further
further_zero None = refl
further_zero (Some k) = let e : 0 + k ≡ k = omega arith in ap Some e

position_lowest : (ps : List Point) (i : ℕ) → position_from (λ (x : Point). not x.graded) i ps ≡ further i (lowest_false (marks ps))
unfolding further
position_lowest [] i = refl
position_lowest (x ∷ ps) i = go x.graded (position_lowest ps (i + 1))
  where
    go : (b : Bool) → position_from (λ (y : Point). not y.graded) (i + 1) ps ≡ further (i + 1) (lowest_false (marks ps))
        → cond (not b) (Some i) (position_from (λ (y : Point). not y.graded) (i + 1) ps) ≡ further i (cond b (after_true (lowest_false (marks ps))) (Some 0))
    go true ih = ih ∙ further_after i (lowest_false (marks ps))
    go false ih = let e : i ≡ i + 0 = omega arith in ap Some e

pub position_ungraded : (ps : List Point) → position (λ (x : Point). not x.graded) ps ≡ lowest_false (marks ps)
position_ungraded ps = position_from-zero (λ (x : Point). not x.graded) ps ∙ position_lowest ps 0 ∙ further_zero (lowest_false (marks ps))

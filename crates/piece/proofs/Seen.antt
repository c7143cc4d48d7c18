-- What a piece's callers see of it after each call. Assumes nothing.
use Rattle.std.proofs.Common.{◌≡◌, ℕ, suc, ◌<◌, ◌≤◌, Bool, true, false, cond, eqb, ltb, leb, List, [], ◌∷◌, map, length, get_or, take, replicate, ℤ, pos, Some, Ok, Err, Option, sym, refl, ap, ◌∙◌, subst, ap₂, arith}
use mathlib.Core.List.{map-map}
use Rattle.std.proofs.lemmas.List.{length-map, length-take-le, length-replicate, get_or-map, get_or-take, nil_from_length, ext_get_or}
use Rattle.std.proofs.lemmas.Simd.{splat_is_map}
use Rattle.std.proofs.lemmas.Bool.{eq-eqb, eqb-true, lt-ltb, le-leb}
use Rattle.language.specs.declared.values.Value.{Value}
use Rattle.language.specs.declared.values.Value.TheVariants.{Whole as whole_value}
use Rattle.language.specs.declared.faults.Fault.{Fault}
use Rattle.language.specs.declared.faults.Layer.TheVariants as layers
use Rattle.language.specs.declared.faults.PieceCause.TheVariants as causes
use Rattle.language.specs.Faults.{fault}
use Rattle.language.specs.Memory.{Memory, live}
use Rattle.store.specs.declared.Store.{Ghosts}
use Rattle.history.specs.declared.answers.Answer.{Answer}
use Rattle.history.specs.declared.answers.Answer.TheVariants as answers
use Rattle.piece.specs.declared.points.Point.{Point}
use Rattle.piece.specs.declared.pieces.Phase.{Phase}
use Rattle.piece.specs.declared.pieces.Phase.TheVariants.{Bare, Laid, Open}
use Rattle.piece.specs.declared.pieces.Piece.{Piece}
use Rattle.history.specs.States.{Call, State, Reply, bare, laid, opened, shifts_of, holding, store_of, Free, with_mode, Outcome, answers_with, refuses_with, shown, does_lay, does_open, does_undo, does_show, does, Does}
use Rattle.history.specs.States as calls
use Rattle.piece.specs.Views.{shift_in, HoldsShift, AllHoldShifts, locations, shifts, remembered, marks, remembering, Placed, mode_of, Counted, laid_points, view, Sound, ticket_answer}
use Rattle.history.proofs.Held.{held_at}
use Rattle.piece.proofs.Passes.{blank}
use Rattle.history.proofs.Plain.{never}

-- a call that lays nothing
pub done : {s : State} {c : Call} {a : Answer} {a' : Reply} {t t' : State} → does [] s c ≡ answers_with a t → (a ≡ answers.Laid → ⊥) → a' ≡ Ok a → t' ≡ t → Does s c a' t'
done {a = a} e n f h = record {
  handed = [];
  free = λ q. let z : Ok a ≡ Ok answers.Laid = sym f ∙ q in let y : a ≡ answers.Laid = cc in absurd (n y);
  answers = ap (λ (x : Outcome). x.0) e ∙ ap Some (sym f);
  leaves = h ∙ sym (ap (λ (x : Outcome). x.1) e);
}

-- and a call that is refused
pub refuses : {s : State} {c : Call} {f : Fault} {a' : Reply} {t t' : State} → does [] s c ≡ refuses_with f t → a' ≡ Err f → t' ≡ t → Does s c a' t'
refuses {f = f} e q h = record {
  handed = [];
  free = λ l. let z : Err f ≡ Ok answers.Laid = sym q ∙ l in never (cc);
  answers = ap (λ (x : Outcome). x.0) e ∙ ap Some (sym q);
  leaves = h ∙ sym (ap (λ (x : Outcome). x.1) e);
}

few : (ph : Phase) (n : ℕ) → Counted ph n → n ≤ 256
few Bare n c = omega arith
few Laid n c = c.1
few (Open t) n c = c.1

-- a ticket that passes
pub ticket_good : (ph : Phase) (n m : ℕ) (t : ℤ) → Ok t ≡ ticket_answer ph n m → (ph ≡ Open t) × (m ≡ n)
ticket_good Bare n m t e = never (cc)
ticket_good Laid n m t e = never (cc)
ticket_good (Open u) n m t e = go (eqb m n) refl e
  where
    go : (b : Bool) → eqb m n ≡ b → Ok t ≡ cond b (Ok u) (Err (fault (layers.Piece causes.Ticket) 0)) → (Open u ≡ Open t) × (m ≡ n)
    go true q e = let z : u ≡ t = cc in (ap Open z, eqb-true m n q)
    go false q e = never (cc)

-- a store that holds these shifts at the points' locations shows them
pub shifts_held : (σ : Memory) (ps : List Point) (zs : List ℤ) → Free (locations ps) → length zs ≡ length ps → σ ≡ holding (locations ps) zs → shifts σ ps ≡ zs
shifts_held σ ps zs f e h =
    ext_get_or (pos 0) (shifts σ ps) zs (length-map ps _ ∙ sym e) (λ k lt. at k (subst (λ n. k < n) (length-map ps _) lt))
  where
    at : (k : ℕ) → k < length ps → get_or (shifts σ ps) k (pos 0) ≡ get_or zs k (pos 0)
    at k lt =
        get_or-map (λ (x : Point). shift_in (σ x.location)) ps k blank (pos 0) lt
        ∙ ap (λ (l : ℕ). shift_in (σ l)) (sym (get_or-map (λ (x : Point). x.location) ps k blank 0 lt))
        ∙ ap (λ (τ : Memory). shift_in (τ (get_or (locations ps) k 0))) h
        ∙ ap shift_in (held_at (locations ps) zs k f (e ∙ sym (length-map ps _)) (subst (λ n. k < n) (sym (length-map ps _)) lt))

-- each point's location holds a shift
whole_at : (σ : Memory) (ps : List Point) (zs : List ℤ) (k : ℕ) → Free (locations ps) → length zs ≡ length ps → σ ≡ holding (locations ps) zs → k < length ps → HoldsShift σ (get_or ps k blank).location
whole_at σ ps zs k f e h lt =
    let is : σ (get_or ps k blank).location ≡ Some (whole_value (get_or zs k (pos 0))) =
    ap σ (sym (get_or-map (λ (x : Point). x.location) ps k blank 0 lt))
    ∙ ap (λ (τ : Memory). τ (get_or (locations ps) k 0)) h
    ∙ held_at (locations ps) zs k f (e ∙ sym (length-map ps _)) (subst (λ n. k < n) (sym (length-map ps _)) lt) in
    is ∙ ap (λ (o : Option Value). Some (whole_value (shift_in o))) (sym is)

all_whole : (σ : Memory) (ps : List Point) → ((k : ℕ) → k < length ps → HoldsShift σ (get_or ps k blank).location) → AllHoldShifts σ ps
all_whole σ [] h = tt
all_whole σ (x ∷ ps) h = (h 0 (omega arith), all_whole σ ps (λ k lt. h (suc k) (omega arith)))

module _ {S : Type 0} (g : Ghosts S) (p : Piece S) (s : Sound g p) where
  abbrev σ : Memory
  σ = g.at p.store

  abbrev ps : List Point
  ps = laid_points p

  pub enough : p.laid ≤ length p.points
  enough = let f = few p.phase p.laid s.counted in let w = s.wide in omega arith

  pub long : length ps ≡ p.laid
  long = length-take-le p.laid p.points enough

  held_in : (ph : Phase) → Counted ph p.laid → σ ≡ store_of (mode_of ph σ ps) → (k : ℕ) → k < p.laid → HoldsShift σ (get_or ps k blank).location
  held_in Bare c h k lt = absurd (omega arith)
  held_in Laid c h k lt = whole_at σ ps (shifts σ ps) k s.apart (length-map ps _) h (subst (λ n. k < n) (sym long) lt)
  held_in (Open t) c h k lt = whole_at σ ps (shifts σ ps) k s.apart (length-map ps _) h (subst (λ n. k < n) (sym long) lt)

  pub holds_shift : (k : ℕ) → k < p.laid → HoldsShift σ (get_or p.points k blank).location
  holds_shift k lt =
      subst (λ (x : Point). HoldsShift σ x.location) (get_or-take p.laid p.points k blank lt) (held_in p.phase s.counted s.held k lt)

  pub all_hold : AllHoldShifts σ ps
  all_hold = all_whole σ ps (λ k lt. held_in p.phase s.counted s.held k (subst (λ n. k < n) long lt))

  seen_in : (ph : Phase) → Counted ph p.laid → shifts_of (mode_of ph σ ps) ≡ shifts σ ps
  seen_in Bare c = sym (ap (λ (qs : List Point). shifts σ qs) (nil_from_length ps (long ∙ c)))
  seen_in Laid c = refl
  seen_in (Open t) c = refl

  seen : shifts_of (view g p).mode ≡ shifts σ ps
  seen = seen_in p.phase s.counted

  pub shows : (k : ℕ) (v t : ℤ) → k < p.laid → v ≡ shift_in (σ (get_or p.points k blank).location) → t ≡ p.step → Does (view g p) (calls.show k) (Ok (shown v t)) (view g p)
  shows k v t lt ev et =
      let below : ltb k (length (shifts σ ps)) ≡ true = lt-ltb k _ (subst (λ n. k < n) (sym (length-map ps _ ∙ long)) lt) in
      let at : get_or (shifts σ ps) k (pos 0) ≡ shift_in (σ (get_or p.points k blank).location) =
      get_or-map (λ (x : Point). shift_in (σ x.location)) ps k blank (pos 0) (subst (λ n. k < n) (sym long) lt)
      ∙ ap (λ (x : Point). shift_in (σ x.location)) (get_or-take p.laid p.points k blank lt) in
      let d : does_show (view g p) k (shifts σ ps) ≡ answers_with (shown (get_or (shifts σ ps) k (pos 0)) p.step) (view g p) = rw below refl in
      done (ap (does_show (view g p) k) seen ∙ d) (λ q. never (cc)) (ap₂ (λ (z u : ℤ). Ok (shown z u)) (ev ∙ sym at) et) refl

module _ {S : Type 0} where
  abbrev pub laid_piece : Piece S → S → ℕ → List Point → Piece S
  laid_piece p s n qs = record { store = s; number = p.number; step = p.step; phase = Laid; laid = n; points = qs }

  abbrev pub open_piece : Piece S → ℤ → List Point → Piece S
  open_piece p t qs = record { store = p.store; number = p.number; step = p.step; phase = Open t; laid = p.laid; points = qs }

module _ {S : Type 0} (g : Ghosts S) (p : Piece S) (s : Sound g p) where
  -- a piece whose store holds these shifts at its points' locations
  sound_laid : (s' : S) (n : ℕ) (qs : List Point) (zs : List ℤ) → length qs ≡ 256 → 1 ≤ n → n ≤ 256 → Free (locations (take n qs)) → length zs ≡ n
      → g.at s' ≡ holding (locations (take n qs)) zs → Sound g (laid_piece p s' n qs) × (shifts (g.at s') (take n qs) ≡ zs)
  sound_laid s' n qs zs w low high f e h =
      let same = shifts_held (g.at s') (take n qs) zs f (e ∙ sym (length-take-le n qs (omega arith))) h in (
        record { wide = w; counted = (low, high); apart = f; held = h ∙ ap (holding (locations (take n qs))) (sym same) },
        same,
      )

  pub laid_all : (s' : S) (n : ℕ) (qs : List Point) → p.phase ≡ Bare → 1 ≤ n → n ≤ 256 → live (g.at p.store) ≡ 0 → n ≤ g.bound p.store → length qs ≡ 256
      → g.bound s' ≡ g.bound p.store → Placed (g.at s') (take n qs)
      → Sound g (laid_piece p s' n qs) × Does (view g p) (calls.lay n) (Ok answers.Laid) (view g (laid_piece p s' n qs))
  laid_all s' n qs e low high empty room w same pl =
      let ls = locations (take n qs) in
      let l : length (take n qs) ≡ n = length-take-le n qs (omega arith) in
      let r : Sound g (laid_piece p s' n qs) × (shifts (g.at s') (take n qs) ≡ replicate n (pos 0)) =
      sound_laid s' n qs (replicate n (pos 0)) w low high pl.free (length-replicate n (pos 0)) (pl.held ∙ ap (λ m. holding ls (replicate m (pos 0))) l) in
      let a : leb 1 n ≡ true = le-leb 1 n low in
      let b : leb n 256 ≡ true = le-leb n 256 high in
      let c : eqb (live (g.at p.store)) 0 ≡ true = eq-eqb _ _ empty in
      let d : leb n (g.bound p.store) ≡ true = le-leb n _ room in
      let m : (view g p).mode ≡ bare (g.at p.store) = ap (λ (x : Phase). mode_of x (g.at p.store) (laid_points p)) e in
      let x : does ls (view g p) (calls.lay n) ≡ answers_with answers.Laid (with_mode (view g p) (laid ls (replicate n (pos 0)))) = ap (does_lay ls (view g p) n) m ∙ simp (a, b, c, d) in (
        r.0,
        record {
          handed = ls;
          free = λ _. (length-map (take n qs) _ ∙ l, pl.free);
          answers = ap (λ (y : Outcome). y.0) x;
          leaves =
              ap₂ (λ (k : ℕ) (zs : List ℤ). record { number = p.number; limit = k; step = p.step; mode = laid ls zs }) same r.1 ∙ sym (ap (λ (y : Outcome). y.1) x);
        },
      )

  some_points : (ph : Phase) → (ph ≡ Bare → ⊥) → Counted ph p.laid → (1 ≤ p.laid) × (p.laid ≤ 256)
  some_points Bare n c = absurd (n refl)
  some_points Laid n c = c
  some_points (Open t) n c = c

  pub opened_all : (t t' : ℤ) (qs : List Point) → t' ≡ t → p.phase ≡ Laid → length qs ≡ 256 → take p.laid qs ≡ map (remembering (g.at p.store)) (laid_points p)
      → Sound g (open_piece p t' qs) × Does (view g p) (calls.open_to t) (Ok (answers.Ticket p.number)) (view g (open_piece p t' qs))
  opened_all t t' qs et e w made =
      let σ = g.at p.store in
      let ps = laid_points p in
      let c = some_points p.phase (λ q. let z = sym e ∙ q in never (cc)) s.counted in
      let ls : locations (take p.laid qs) ≡ locations ps = ap locations made ∙ map-map (λ x. x.location) (remembering σ) ps in
      let zs : shifts σ (take p.laid qs) ≡ shifts σ ps = ap (shifts σ) made ∙ map-map (λ x. shift_in (σ x.location)) (remembering σ) ps in
      let bs : remembered (take p.laid qs) ≡ shifts σ ps = ap remembered made ∙ map-map (λ x. x.remembered) (remembering σ) ps in
      let gs : marks (take p.laid qs) ≡ replicate (length (shifts σ ps)) false =
      ap marks made ∙ map-map (λ x. x.graded) (remembering σ) ps ∙ sym (splat_is_map ps (length ps) false refl) ∙ ap (λ n. replicate n false) (sym (length-map ps _)) in
      let m : (view g p).mode ≡ laid (locations ps) (shifts σ ps) = ap (λ (x : Phase). mode_of x σ ps) e in
      let h : σ ≡ holding (locations ps) (shifts σ ps) = s.held ∙ ap store_of m in (
        record { wide = w; counted = c; apart = subst Free (sym ls) s.apart; held = h ∙ ap₂ holding (sym ls) (sym zs) },
        done (ap (does_open (view g p) t) m) (λ q. never (cc)) refl
            (ap (with_mode (view g p))
            (ap₂ (λ (v : ℤ) (xs : List ℕ). opened v xs (shifts σ (take p.laid qs)) (remembered (take p.laid qs)) (marks (take p.laid qs))) et ls
            ∙ ap₂ (λ (xs ys : List ℤ). opened t (locations ps) xs ys (marks (take p.laid qs))) zs bs
            ∙ ap (λ (xs : List Bool). opened t (locations ps) (shifts σ ps) (shifts σ ps) xs) gs)),
      )

  pub undone_all : (s' : S) (t v : ℤ) (n : ℕ) → p.phase ≡ Open t → n ≡ p.number → v ≡ p.step → g.bound s' ≡ g.bound p.store
      → g.at s' ≡ holding (locations (laid_points p)) (remembered (laid_points p))
      → Sound g (laid_piece p s' p.laid p.points) × Does (view g p) (calls.undo n) (Ok (answers.Undone v)) (view g (laid_piece p s' p.laid p.points))
  undone_all s' t v n e same ev limit back =
      let σ = g.at p.store in
      let ps = laid_points p in
      let c = some_points p.phase (λ q. let z = sym e ∙ q in never (cc)) s.counted in
      let r = sound_laid s' p.laid p.points (remembered ps) s.wide c.0 c.1 s.apart (length-map ps _ ∙ long g p s) back in
      let m : (view g p).mode ≡ opened t (locations ps) (shifts σ ps) (remembered ps) (marks ps) = ap (λ (x : Phase). mode_of x σ ps) e in
      let is : eqb n p.number ≡ true = eq-eqb n _ same in
      let d : does [] (view g p) (calls.undo n) ≡ answers_with (answers.Undone p.step) (with_mode (view g p) (laid (locations ps) (remembered ps))) = ap (does_undo (view g p) n) m ∙ simp is in (
        r.0,
        done d (λ q. never (cc)) (ap (λ (z : ℤ). Ok (answers.Undone z)) ev)
            (ap₂ (λ (k : ℕ) (zs : List ℤ). record { number = p.number; limit = k; step = p.step; mode = laid (locations ps) zs }) limit r.1),
      )

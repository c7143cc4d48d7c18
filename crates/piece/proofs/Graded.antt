-- A point is graded. Assumes nothing.
use Rattle.std.proofs.Common.{◌≡◌, ℕ, ◌+◌, ◌-◌, ◌<◌, ◌≤◌, Bool, true, false, cond, eqb, ltb, leb, List, [], length, get_or, take, set, ℤ, pos, Some, None, Ok, Err, Option, Result, sym, refl, ap, ◌∙◌, subst, ap₂, arith}
use mathlib.Core.Path.{subst⁻¹}
use lib.Seq.{take-set-lt}
use Rattle.std.proofs.lemmas.List.{length-map, length-set, get_or-map, get_or-take, map-set, set-get_or}
use Rattle.std.proofs.lemmas.Bool.{eq-eqb, eqb-true, lt-ltb, le-leb, lt-leb, leb-true, leb-false, and_parts}
use Rattle.language.specs.declared.values.Value.TheVariants.{Whole as whole_value}
use Rattle.language.specs.declared.values.Graded.{Graded}
use Rattle.language.specs.declared.faults.Fault.{Fault}
use Rattle.language.specs.declared.faults.Layer.TheVariants as layers
use Rattle.language.specs.declared.faults.PieceCause.TheVariants as causes
use Rattle.language.specs.declared.faults.TableCause.TheVariants.{WorkLists}
use Rattle.language.specs.declared.faults.RunCause.TheVariants as run_causes
use Rattle.language.specs.declared.values.Stop.{Stop}
use Rattle.language.specs.declared.values.Stop.TheVariants.{Sum, Unit as UnitStop, Stuck}
use Rattle.language.specs.Faults.{fault}
use Rattle.language.specs.Reference.{graded, answer}
use Rattle.language.specs.Outcome.{told, outcome_of}
use Rattle.language.specs.Check.{right_size, read_rule}
use Rattle.language.specs.Tree.{Com}
use Rattle.language.specs.declared.tables.Node.{Node}
use Rattle.rule.specs.Accepted.{has_need, accepted}
use Rattle.language.specs.Runs.{Out, ended, stopped, runs}
use Rattle.language.specs.Memory.{Memory, put, live}
use Rattle.store.specs.declared.Store.{Ghosts}
use Rattle.store.specs.declared.WriteRefusal.{WriteRefusal}
use Rattle.store.specs.Calls.{write_answer}
use Rattle.std.specs.Result.{IsOk}
use Rattle.piece.specs.declared.points.Point.{Point}
use Rattle.piece.specs.declared.pieces.Phase.{Phase}
use Rattle.piece.specs.declared.pieces.Phase.TheVariants.{Bare, Laid, Open}
use Rattle.piece.specs.declared.pieces.Piece.{Piece}
use Rattle.history.specs.declared.answers.Answer.TheVariants as answers
use Rattle.history.specs.States as calls
use Rattle.history.specs.States.{Accepted, State, Mode, Reply, laid, opened, holding, store_of, Free, with_mode, Outcome, answers_with, refuses_with, refused, at_point, lists_fit, does_run, does_grade, does, Does}
use Rattle.history.specs.Promise.{Tells}
use Rattle.run.specs.Answers.{run_answer, Runnable, RunGives}
use Rattle.piece.specs.Runs.{from_below, below, run_in, new_step, RanOn}
use Rattle.piece.specs.Views.{locations, shifts, remembered, marks, mode_of, Counted, laid_points, view, Sound, mode_with_shift, with_shift, said, ticket_answer}
use Rattle.history.proofs.Held.{holding_set}
use Rattle.piece.proofs.Passes.{blank, writes}
use Rattle.piece.proofs.Seen.{done, refuses, long, ticket_good, holds_shift, shifts_held}
use Rattle.history.proofs.Plain.{never, some_same}

-- the questions of a run, in order, and then what it comes to
abbrev pub asked_run : Accepted → (limit : ℕ) → Memory → ℕ × ℕ × ℕ → ℤ → ℕ → Option (Result Graded Fault)
asked_run r limit σ w step a =
    cond
    (lists_fit r w)
    (cond (leb (live σ + r.need) limit) (told (answer r.tree step a)) (Some (Err (fault (layers.Piece causes.Room) 0))))
    (Some (Err (fault (layers.Table WorkLists) 0)))

pub record Ran (r : Accepted) (limit : ℕ) (σ : Memory) (w : ℕ × ℕ × ℕ) (step : ℤ) (a : ℕ) (y : Result Graded Fault) : Type 0 where
  pub answers : asked_run r limit σ w step a ≡ Some y
  pub run : lists_fit r w ≡ true → live σ + r.need ≤ limit → (o : Out ℤ) × runs limit r.tree step σ a o × Tells y a σ o

abbrev pub graded_point : Point → Point
graded_point x = record { location = x.location; remembered = x.remembered; graded = true }

module _ {S : Type 0} where
  abbrev pub graded_piece : Piece S → S → ℕ → Piece S
  graded_piece p s k = record { store = s; number = p.number; step = p.step; phase = p.phase; laid = p.laid; points = set p.points k (graded_point (get_or p.points k blank)) }

module _ {S : Type 0} (g : Ghosts S) (p : Piece S) (s : Sound g p) (k : ℕ) (lt : k < p.laid) where
  abbrev σ : Memory
  σ = g.at p.store

  abbrev ps : List Point
  ps = laid_points p

  abbrev x : Point
  x = get_or p.points k blank

  abbrev qs : List Point
  qs = take p.laid (set p.points k (graded_point x))

  in_ps : k < length ps
  in_ps = subst (λ n. k < n) (sym (long g p s)) lt

  the_point : x ≡ get_or ps k blank
  the_point = sym (get_or-take p.laid p.points k blank lt)

  changed : qs ≡ set ps k (graded_point x)
  changed = take-set-lt p.laid p.points k (graded_point x) lt

  located : locations qs ≡ locations ps
  located =
      ap locations changed ∙ map-set (λ (y : Point). y.location) ps k (graded_point x)
      ∙ ap (set (locations ps) k) (ap (λ (y : Point). y.location) the_point ∙ sym (get_or-map (λ (y : Point). y.location) ps k blank 0 in_ps))
      ∙ set-get_or (locations ps) k 0

  kept : remembered qs ≡ remembered ps
  kept =
      ap remembered changed ∙ map-set (λ (y : Point). y.remembered) ps k (graded_point x)
      ∙ ap (set (remembered ps) k) (ap (λ (y : Point). y.remembered) the_point ∙ sym (get_or-map (λ (y : Point). y.remembered) ps k blank (pos 0) in_ps))
      ∙ set-get_or (remembered ps) k (pos 0)

  marked : marks qs ≡ set (marks ps) k true
  marked = ap marks changed ∙ map-set (λ (y : Point). y.graded) ps k (graded_point x)

  pub shift_writes : (z : ℤ) (r : Result (Unit {0}) WriteRefusal) → r ≡ write_answer (σ x.location) (whole_value z) → IsOk r
  shift_writes z r q = writes r (σ x.location) _ z q (holds_shift g p s k lt)

  module _ (s' : S) (z : ℤ) (limit : g.bound s' ≡ g.bound p.store) (after : g.at s' ≡ put σ x.location (Some (whole_value z))) where
    now_held : σ ≡ holding (locations ps) (shifts σ ps) → g.at s' ≡ holding (locations ps) (set (shifts σ ps) k z)
    now_held h =
        after
        ∙ ap₂ (λ (τ : Memory) (l : ℕ). put τ l (Some (whole_value z))) h (ap (λ (y : Point). y.location) the_point ∙ sym (get_or-map (λ (y : Point). y.location) ps k blank 0 in_ps))
        ∙ holding_set (locations ps) (shifts σ ps) k z s.apart (length-map ps _ ∙ sym (length-map ps _)) (subst (λ n. k < n) (sym (length-map ps _)) in_ps)

    now_shown : σ ≡ holding (locations ps) (shifts σ ps) → shifts (g.at s') qs ≡ set (shifts σ ps) k z
    now_shown h =
        shifts_held (g.at s') qs (set (shifts σ ps) k z) (subst Free (sym located) s.apart)
        (length-set (shifts σ ps) k z ∙ length-map ps _ ∙ sym (length-set ps k (graded_point x)) ∙ ap length (sym changed))
        (now_held h ∙ ap (λ (ls : List ℕ). holding ls (set (shifts σ ps) k z)) (sym located))

    held_so : σ ≡ holding (locations ps) (shifts σ ps) → g.at s' ≡ holding (locations qs) (shifts (g.at s') qs)
    held_so h = now_held h ∙ ap₂ holding (sym located) (sym (now_shown h))

    put_in : (ph : Phase) → Counted ph p.laid → σ ≡ store_of (mode_of ph σ ps)
        → (g.at s' ≡ store_of (mode_of ph (g.at s') qs)) × (mode_of ph (g.at s') qs ≡ mode_with_shift (mode_of ph σ ps) k z)
    put_in Bare c h = absurd (omega arith)
    put_in Laid c h = (held_so h, ap₂ laid located (now_shown h))
    put_in (Open t) c h = (
      held_so h,
      ap₂ (λ (ls : List ℕ) (zs : List ℤ). opened t ls zs (remembered qs) (marks qs)) located (now_shown h)
          ∙ ap₂ (λ (bs : List ℤ) (gs : List Bool). opened t (locations ps) (set (shifts σ ps) k z) bs gs) kept marked,
    )

    pub put_shift : Sound g (graded_piece p s' k) × (view g (graded_piece p s' k) ≡ with_shift (view g p) k z)
    put_shift =
        let r = put_in p.phase s.counted s.held in (
          record { wide = length-set p.points k _ ∙ s.wide; counted = s.counted; apart = subst Free (sym located) s.apart; held = r.0 },
          ap₂ (λ (n : ℕ) (m : Mode). record { number = p.number; limit = n; step = p.step; mode = m }) limit r.1,
        )

-- what is told of a run comes from below
told_below : (y : Result Graded Stop) (k : ℕ) (f : Fault) → told y ≡ Some (Err f) → from_below k f f.layer ≡ at_point k f
told_below (Ok x) k f e = never (cc)
told_below (Err (Sum i)) k f e = let q : fault (layers.Run run_causes.Sum) i ≡ f = cc in subst (λ (x : Fault). from_below k x x.layer ≡ at_point k x) q refl
told_below (Err (UnitStop i)) k f e = let q : fault (layers.Run run_causes.Unit) i ≡ f = cc in subst (λ (x : Fault). from_below k x x.layer ≡ at_point k x) q refl
told_below (Err Stuck) k f e = never (cc)

told_run : (y : Result Graded Stop) (k : ℕ) (x : Result Graded Fault) → told y ≡ Some x → run_in (below k x) ≡ Some x
told_run (Ok g) k x e = let q : Ok g ≡ x = cc in subst (λ (v : Result Graded Fault). run_in (below k v) ≡ Some v) q refl
told_run (Err (Sum i)) k x e = let q : Err (fault (layers.Run run_causes.Sum) i) ≡ x = cc in subst (λ (v : Result Graded Fault). run_in (below k v) ≡ Some v) q refl
told_run (Err (UnitStop i)) k x e = let q : Err (fault (layers.Run run_causes.Unit) i) ≡ x = cc in subst (λ (v : Result Graded Fault). run_in (below k v) ≡ Some v) q refl
told_run (Err Stuck) k x e = never (cc)

pub below_ok : (k : ℕ) (x : Result Graded Fault) (y : Graded) → below k x ≡ Ok y → x ≡ Ok y
below_ok k (Ok g) y e = e
below_ok k (Err f) y e = never (cc)

-- what a grade comes to after its run
abbrev after_run : State → ℕ → Result Graded Fault → Outcome
after_run s k (Ok y) = answers_with (answers.Graded y) (with_shift s k y.shift)
after_run s k (Err f) = refuses_with (from_below k f f.layer) s

module _ (s : State) (k : ℕ) (t : ℤ) (ls : List ℕ) (zs bs : List ℤ) (gs : List Bool) (e : s.mode ≡ opened t ls zs bs gs) where
  run_comes : (y : Result Graded Stop) (x : Result Graded Fault) → told y ≡ Some x → does_run s k t ls zs bs gs (told y) ≡ after_run s k x
  run_comes y (Ok g) q = ap (does_run s k t ls zs bs gs) q ∙ ap (λ (m : Mode). answers_with (answers.Graded g) (with_mode s (mode_with_shift m k g.shift))) (sym e)
  run_comes y (Err f) q = ap (does_run s k t ls zs bs gs) q ∙ ap (λ (x : Fault). refuses_with x s) (sym (told_below y k f q))

  comes : (b₁ b₂ : Bool) (y : Result Graded Stop) (x : Result Graded Fault)
      → cond b₁ (cond b₂ (told y) (Some (Err (fault (layers.Piece causes.Room) 0)))) (Some (Err (fault (layers.Table WorkLists) 0))) ≡ Some x
      → cond b₁ (cond b₂ (does_run s k t ls zs bs gs (told y)) (refused causes.Room 0 s)) (refuses_with (at_point k (fault (layers.Table WorkLists) 0)) s) ≡ after_run s k x
  comes true true y x q = run_comes y x q
  comes true false y x q = ap (after_run s k) (sym (some_same q))
  comes false b₂ y x q = ap (after_run s k) (sym (some_same q))

  told_of : (b₁ b₂ : Bool) (y : Result Graded Stop) (x v : Result Graded Fault)
      → cond b₁ (cond b₂ (told y) (Some (Err (fault (layers.Piece causes.Room) 0)))) (Some (Err (fault (layers.Table WorkLists) 0))) ≡ Some x
      → run_in (below k x) ≡ Some v → (b₁ ≡ true) × (b₂ ≡ true) × (v ≡ x)
  told_of true true y x v q r = (refl, refl, some_same (sym (told_run y k x q) ∙ r))
  told_of true false y x v q r = let z = ap (λ (u : Result Graded Fault). run_in (below k u)) (some_same q) in let w : None ≡ Some v = sym z ∙ r in never (cc)
  told_of false b₂ y x v q r = let z = ap (λ (u : Result Graded Fault). run_in (below k u)) (some_same q) in let w : None ≡ Some v = sym z ∙ r in never (cc)

module _ {S : Type 0} (g : Ghosts S) (p : Piece S) (s : Sound g p) (t : ℤ) (e : p.phase ≡ Open t) (m k : ℕ) (same : m ≡ p.number) where
  abbrev rows : List Point
  rows = laid_points p

  abbrev held : Memory
  held = g.at p.store

  seen_open : (view g p).mode ≡ opened t (locations rows) (shifts held rows) (remembered rows) (marks rows)
  seen_open = ap (λ (x : Phase). mode_of x held rows) e

  store_is : held ≡ holding (locations rows) (shifts held rows)
  store_is = s.held ∙ ap store_of seen_open

  ours : eqb m p.number ≡ true
  ours = eq-eqb m _ same

  module _ (r : Accepted) (a : ℕ) (w : ℕ × ℕ × ℕ) (x : Result Graded Fault) (lt : k < p.laid) (u : ℤ) (eu : u ≡ t) (ran_so : Ran r (g.bound p.store) held w u a x) where
    ran : Ran r (g.bound p.store) held w t a x
    ran = subst (λ (v : ℤ). Ran r (g.bound p.store) held w v a x) eu ran_so

    pub grade_comes : does [] (view g p) (calls.grade m k r a w) ≡ after_run (view g p) k x
    grade_comes =
        let below_all : ltb k (length (shifts held rows)) ≡ true = lt-ltb k _ (subst (λ n. k < n) (sym (length-map rows _ ∙ long g p s)) lt) in
        let q : asked_run r (g.bound p.store) (holding (locations rows) (shifts held rows)) w t a ≡ Some x = subst (λ (τ : Memory). asked_run r (g.bound p.store) τ w t a ≡ Some x) store_is ran.answers in
        ap (does_grade (view g p) m k r a w) seen_open
        ∙ simp (ours, below_all) (comes (view g p) k t (locations rows) (shifts held rows) (remembered rows) (marks rows) seen_open
        (lists_fit r w) (leb (live (holding (locations rows) (shifts held rows)) + r.need) (g.bound p.store)) (answer r.tree t a) x q)

    pub grade_ran : (v : Result Graded Fault) → v ≡ below k x → RanOn (view g p) r a v
    grade_ran v ev y q =
        let (fits, room, is_x) = told_of (view g p) k t (locations rows) (shifts held rows) (remembered rows) (marks rows) seen_open
        (lists_fit r w) (leb (live held + r.need) (g.bound p.store)) (answer r.tree t a) x y ran.answers (ap run_in (sym ev) ∙ q) in
        let (o, runs_so, tells) = ran.run fits (leb-true _ _ room) in
        subst (λ (τ : Memory). (o : Out ℤ) × runs (g.bound p.store) r.tree (new_step (view g p).mode) τ a o × Tells y a τ o) s.held
        (subst⁻¹ (λ (u : ℤ). (o : Out ℤ) × runs (g.bound p.store) r.tree u held a o × Tells y a held o) (ap new_step seen_open)
        (subst⁻¹ (λ (z : Result Graded Fault). (o : Out ℤ) × runs (g.bound p.store) r.tree t held a o × Tells z a held o) is_x (o, runs_so, tells)))

    pub grade_good : (y : Graded) (after between : State) (z : ℤ) → Ok y ≡ below k x → between ≡ view g p → z ≡ y.shift → after ≡ with_shift between k z
        → Does (view g p) (calls.grade m k r a w) (Ok (answers.Graded y)) after
    grade_good y after between z e eb ez f =
        done (grade_comes ∙ ap (after_run (view g p) k) (below_ok k x y (sym e))) (λ q. never (cc)) refl (f ∙ ap₂ (λ (q : State) (v : ℤ). with_shift q k v) eb ez)

    pub grade_bad : (v : Result Graded Fault) (f : Fault) → v ≡ below k x → v ≡ Err f → Does (view g p) (calls.grade m k r a w) (said answers.Graded v) (view g p)
    grade_bad v f e q = go x (sym q ∙ e) grade_comes
      where
        go : (u : Result Graded Fault) → Err f ≡ below k u → does [] (view g p) (calls.grade m k r a w) ≡ after_run (view g p) k u → Does (view g p) (calls.grade m k r a w) (said answers.Graded v) (view g p)
        go (Ok y) n d = never (cc)
        go (Err h) n d = let z : f ≡ from_below k h h.layer = cc in refuses d (ap (said answers.Graded) q ∙ ap (λ (y : Fault). Err y) z) refl

module _ {S : Type 0} where
  abbrev pub with_store : Piece S → S → Piece S
  with_store p s = record { store = s; number = p.number; step = p.step; phase = p.phase; laid = p.laid; points = p.points }

-- another store of the same meaning
pub stored : {S : Type 0} (g : Ghosts S) (p : Piece S) → Sound g p → (s' : S) → g.bound s' ≡ g.bound p.store → g.at s' ≡ g.at p.store
    → Sound g (with_store p s') × (view g (with_store p s') ≡ view g p)
stored g p s s' limit same =
    let m : mode_of p.phase (g.at s') (laid_points p) ≡ mode_of p.phase (g.at p.store) (laid_points p) = ap (λ (τ : Memory). mode_of p.phase τ (laid_points p)) same in (
      record { wide = s.wide; counted = s.counted; apart = s.apart; held = same ∙ s.held ∙ ap store_of (sym m) },
      ap₂ (λ (n : ℕ) (x : Mode). record { number = p.number; limit = n; step = p.step; mode = x }) limit m,
    )

-- the contract of a run, said of an accepted rule
needed : (r : Accepted) (nodes : List Node) (need : ℕ) → r.table ≡ nodes → accepted nodes need ≡ true → r.need ≡ need
needed r nodes need e ok =
    let h = (and_parts (right_size (length nodes)) (has_need (read_rule nodes) need) ok).1 in
    eqb-true r.need need (ap (λ (o : Result (Com × ℕ) Fault). has_need o need) (sym r.reads ∙ ap read_rule e) ∙ h)

room_same : (need limit n : ℕ) → n ≤ limit → leb need (limit - n) ≡ leb (n + need) limit
room_same need limit n h = go (leb need (limit - n)) refl
  where
    go : (b : Bool) → leb need (limit - n) ≡ b → b ≡ leb (n + need) limit
    go true q = let l = leb-true need (limit - n) q in sym (le-leb (n + need) limit (omega arith))
    go false q = let l = leb-false need (limit - n) q in sym (lt-leb (n + need) limit (omega arith))

gives_tells : (limit : ℕ) (c : Com) (step : ℤ) (σ : Memory) (a : ℕ) (y : Result Graded Fault) → RunGives limit c step σ a y
    → (o : Out ℤ) × runs limit c step σ a o × Tells y a σ o
gives_tells limit c step σ a (Ok g) (le, so) =
    let e : g.units ≡ a - (a - g.units) = omega arith in
    (ended g.shift σ (a - g.units), so, (ap (λ (u : ℕ). Ok (graded g.shift u)) e, omega arith, refl))
gives_tells limit c step σ a (Err f) (s, n, told_so, so) = (stopped s σ, so, (told_so, refl))

module _ (r : Accepted) (limit : ℕ) (σ : Memory) (w : ℕ × ℕ × ℕ) (step : ℤ) (a : ℕ) (y : Result Graded Fault) (within : live σ ≤ limit) where
  ran_at : Some y ≡ run_answer r.table r.need step a w.0 w.1 w.2 limit (live σ)
      → ((c : Com) → Runnable r.table r.need w.0 w.1 w.2 limit (live σ) c → RunGives limit c step σ a y) → Ran r limit σ w step a y
  ran_at says gives =
      let room = room_same r.need limit (live σ) within in
      let none : Option (Result Graded Fault) = Some (Err (fault (layers.Table WorkLists) 0)) in
      record {
        answers =
            sym (ap₂ (λ (b : Bool) (o : Option (Result Graded Fault)). cond (lists_fit r w) (cond b o (Some (Err (fault (layers.Piece causes.Room) 0)))) none) room (ap (λ (o : Result (Com × ℕ) Fault). outcome_of o step a) r.reads))
            ∙ sym says;
        run = λ fits enough. gives_tells limit r.tree step σ a y (gives r.tree (record { reads = r.reads; lists = fits; room = room ∙ le-leb _ _ enough }));
      }

  pub ran_of : (nodes : List Node) (need : ℕ) → r.table ≡ nodes → accepted nodes need ≡ true
      → Some y ≡ run_answer nodes need step a w.0 w.1 w.2 limit (live σ)
      → ((c : Com) → Runnable nodes need w.0 w.1 w.2 limit (live σ) c → RunGives limit c step σ a y) → Ran r limit σ w step a y
  ran_of nodes need e ok says gives =
      let n = needed r nodes need e ok in
      ran_at
      (subst⁻¹ (λ (v : List Node). Some y ≡ run_answer v r.need step a w.0 w.1 w.2 limit (live σ)) e
      (subst⁻¹ (λ (m : ℕ). Some y ≡ run_answer nodes m step a w.0 w.1 w.2 limit (live σ)) n says))
      (subst⁻¹ (λ (v : List Node). (c : Com) → Runnable v r.need w.0 w.1 w.2 limit (live σ) c → RunGives limit c step σ a y) e
      (subst⁻¹ (λ (m : ℕ). (c : Com) → Runnable nodes m w.0 w.1 w.2 limit (live σ) c → RunGives limit c step σ a y) n gives))

-- a grade by an accepted table, whose run came to x and left a store of the same meaning
module _ {S : Type 0} (g : Ghosts S) (p : Piece S) (s : Sound g p) (t u : ℤ) (m k a : ℕ) (w : ℕ × ℕ × ℕ) (nodes : List Node) (need : ℕ) (x : Result Graded Fault) (s' : S) where
  -- what each grade by this table does and tells
  abbrev pub ByTable : Reply → State → Result Graded Fault → Type 0
  ByTable reply after v =
      ((r : Accepted) → r.table ≡ nodes → Does (view g p) (calls.grade m k r a w) reply after)
      × ((r : Accepted) → r.table ≡ nodes → RanOn (view g p) r a v)

  abbrev between : State
  between = view g (with_store p s')

  module _ (good : Ok t ≡ ticket_answer p.phase p.number m) (lt : k < p.laid) (eu : u ≡ t) (ok : accepted nodes need ≡ true) (within : live (g.at p.store) ≤ g.bound p.store)
      (says : Some x ≡ run_answer nodes need u a w.0 w.1 w.2 (g.bound p.store) (live (g.at p.store)))
      (gives : (c : Com) → Runnable nodes need w.0 w.1 w.2 (g.bound p.store) (live (g.at p.store)) c → RunGives (g.bound p.store) c u (g.at p.store) a x)
      (limit : g.bound s' ≡ g.bound p.store) (meaning : g.at s' ≡ g.at p.store) where
    is_open : (p.phase ≡ Open t) × (m ≡ p.number)
    is_open = ticket_good p.phase p.number m t good

    ran_by : (r : Accepted) → r.table ≡ nodes → Ran r (g.bound p.store) (g.at p.store) w u a x
    ran_by r e = ran_of r (g.bound p.store) (g.at p.store) w u a x within nodes need e ok says gives

    pub grade_refused : (v : Result Graded Fault) (f : Fault) → v ≡ below k x → v ≡ Err f → ByTable (said answers.Graded v) between v
    grade_refused v f ev e = (
      λ r et.
          subst (λ (q : State). Does (view g p) (calls.grade m k r a w) (said answers.Graded v) q) (sym (stored g p s s' limit meaning).1)
          (grade_bad g p s t is_open.0 m k is_open.1 r a w x lt u eu (ran_by r et) v f ev e),
      λ r et. grade_ran g p s t is_open.0 m k is_open.1 r a w x lt u eu (ran_by r et) v ev,
    )

    pub grade_given : (y : Graded) (after : State) (z : ℤ) → Ok y ≡ below k x → z ≡ y.shift → after ≡ with_shift between k z → ByTable (Ok (answers.Graded y)) after (Ok y)
    grade_given y after z ey ez f = (
      λ r et. grade_good g p s t is_open.0 m k is_open.1 r a w x lt u eu (ran_by r et) y after between z ey (stored g p s s' limit meaning).1 ez f,
      λ r et. grade_ran g p s t is_open.0 m k is_open.1 r a w x lt u eu (ran_by r et) (Ok y) ey,
    )

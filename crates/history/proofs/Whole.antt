-- What holds of whole histories. Assumes nothing.
use Rattle.std.proofs.Common.{◌≡◌, ℕ, zero, suc, ◌+◌, ◌<◌, ◌≤◌, Bool, true, false, cond, eqb, ltb, leb, ◌⊎◌, List, [], ◌∷◌, ◌++◌, length, get_or, set, replicate, ℤ, pos, Some, None, Ok, Err, Option, Result, sym, refl, ap, ◌∙◌, subst, ap₂, inl, inr, arith}
use mathlib.Core.Path.{subst⁻¹}
use Rattle.std.proofs.lemmas.Bool.{eq-eqb, ne_eqb, lt-ltb, le-leb, both_ways, cases_eq}
use Rattle.std.proofs.lemmas.List.{length-set, get_or-set_same, get_or-set_other, get_or-replicate, length-replicate}
use Rattle.language.specs.declared.values.Value.TheVariants.{Whole as whole_value}
use Rattle.language.specs.declared.values.Stop.{Stop}
use Rattle.language.specs.declared.values.Stop.TheVariants.{Sum, Unit as UnitStop, Stuck}
use Rattle.language.specs.declared.values.Graded.{Graded as Grading}
use Rattle.language.specs.declared.faults.Fault.{Fault}
use Rattle.language.specs.declared.faults.Layer.TheVariants as layers
use Rattle.language.specs.declared.faults.PieceCause.TheVariants as causes
use Rattle.language.specs.declared.faults.RunCause.TheVariants as run_causes
use Rattle.language.specs.Faults.{fault}
use Rattle.language.specs.Memory.{Memory, live}
use Rattle.language.specs.Tree.{Com}
use Rattle.language.specs.Meaning.{Trace, Means}
use Rattle.language.specs.Reference.{graded, answer}
use Rattle.language.specs.Outcome.{told}
use Rattle.language.specs.Runs.{Out, ended, stopped}
use Rattle.language.specs.Laws.{AsAnswered}
use Rattle.language.proofs.Commands.{gives_exactly, steady as steadily}
use Rattle.language.proofs.Sound.{sound_runs, runs_exist}
use Rattle.history.specs.declared.answers.Answer.TheVariants.{Laid, Ticket, Graded, Kept, Undone, Shown}
use Rattle.history.specs.States.{Accepted, Call, lay, open_to, grade, keep, undo, show, Mode, bare, laid, opened, State, shifts_of, locations_of, holding, store_of, Apart, Free, with_mode, lowest_false, after_true, refused, at_point, shown, Reply, does_run, does_grade, does_end, does_keep, does_undo, does_show, Does}
use Rattle.history.proofs.Held.{held_at, absent, vacant, held_count}
use Rattle.history.specs.Histories.{History, Goes, Start, Reached, resizing, points, open_step, kept_step, Rules, open_rules, kept_rules, none_opened_at, none_opened, RunAnswer, said, run_of}
use Rattle.history.specs.Promise.{store, NeverStuckHere, Tells, Faithful, Ready, Reaches, Live, Came, Alike, Steady, Due, DueOpen, Seen, Stands, StandsOpen, AllGraded, Keeps, Undoes, UndoneWholly, RefusedWholly, Always}
use Rattle.history.proofs.Rules.{passed, not_stuck}
use Rattle.history.proofs.Moves.{ReadyAt, Moves, refuses, stops, shows, lays, opens, grades, keeps, undoes, does_moves}
use Rattle.history.proofs.Plain.{never, some_same}

-- what is told of a run
told_ok : (y : Result Grading Stop) (g : Grading) → told y ≡ Some (Ok g) → y ≡ Ok g
told_ok (Ok x) g e = let q : x ≡ g = cc in ap Ok q
told_ok (Err (Sum i)) g e = never (cc)
told_ok (Err (UnitStop i)) g e = never (cc)
told_ok (Err Stuck) g e = never (cc)

told_stop : (y : Result Grading Stop) (k : ℕ) (f : Fault) → told y ≡ Some (Err f) → run_of (Err (at_point k f)) ≡ Some (Err f)
told_stop (Ok x) k f e = never (cc)
told_stop (Err (Sum i)) k f e = let q : fault (layers.Run run_causes.Sum) i ≡ f = cc in subst (λ (x : Fault). run_of (Err (at_point k x)) ≡ Some (Err x)) q refl
told_stop (Err (UnitStop i)) k f e = let q : fault (layers.Run run_causes.Unit) i ≡ f = cc in subst (λ (x : Fault). run_of (Err (at_point k x)) ≡ Some (Err x)) q refl
told_stop (Err Stuck) k f e = never (cc)

abbrev is_some : Option Accepted → Bool
is_some None = false
is_some (Some r) = true

-- a point in an open resize: its mark and its shift
abbrev Point : Option Accepted → ℤ → Option Rules → ℤ → ℕ → Bool → ℤ → Type 0
Point o new kept old k g z = (g ≡ is_some o) × DueOpen o new kept old k z

-- how the words of a history fit a mode
abbrev Fitting : Memory → Bool → ℕ → Option Rules → ℤ → Rules → ℤ → Mode → Type 0
Fitting held b n kept old now new (bare σ) = (b ≡ false) × (n ≡ 0) × (kept ≡ None) × (σ ≡ held)
Fitting held b n kept old now new (laid ls zs) =
    (b ≡ false) × Free ls × (length ls ≡ n) × (length zs ≡ n) × ((k : ℕ) → k < n → Due kept old k (get_or zs k (pos 0)))
Fitting held b n kept old now new (opened t ls zs bs gs) =
    (b ≡ true) × Free ls × (length ls ≡ n) × (length zs ≡ n) × ((k : ℕ) → k < n → Due kept old k (get_or bs k (pos 0)))
    × (length bs ≡ n) × (length gs ≡ n) × (t ≡ new)
    × ((k : ℕ) → k < n → Point (now k) new kept old k (get_or gs k false) (get_or zs k (pos 0)))

record Holds (p : Start) (h : History) (s : State) : Type 0 where
  number : s.number ≡ p.number
  limit : s.limit ≡ p.limit
  step : s.step ≡ kept_step h
  vacated : 1 ≤ points h → (l : ℕ) → p.held l ≡ None
  fitting : Fitting p.held (resizing h) (points h) (kept_rules h) (kept_step h) (open_rules h) (open_step h) s.mode

no_after : (o : Option ℕ) → after_true o ≡ None → o ≡ None
no_after None e = refl
no_after (Some k) e = never (cc)

true_at : (gs : List Bool) (k : ℕ) → lowest_false gs ≡ None → k < length gs → get_or gs k false ≡ true
true_at [] k e h = absurd (omega arith)
true_at (true ∷ gs) zero e h = refl
true_at (true ∷ gs) (suc k) e h = true_at gs k (no_after (lowest_false gs) e) (omega arith)
true_at (false ∷ gs) k e h = never (cc)

-- the rule that graded a point last
regraded : (now : Rules) (new : ℤ) (kept : Option Rules) (old : ℤ) (zs : List ℤ) (gs : List Bool) (k : ℕ) (r : Accepted) (t : Trace) (z : ℤ) (n : ℕ)
    → length zs ≡ n → length gs ≡ n → k < n → Means r.tree new t z
    → ((j : ℕ) → j < n → Point (now j) new kept old j (get_or gs j false) (get_or zs j (pos 0)))
    → (j : ℕ) → j < n → Point (cond (eqb j k) (Some r) (now j)) new kept old j (get_or (set gs k true) j false) (get_or (set zs k z) j (pos 0))
regraded now new kept old zs gs k r t z n lz lg lk m was j lj = go (cases_eq j k)
  where
    go : (j ≡ k) ⊎ (j ≡ k → ⊥) → Point (cond (eqb j k) (Some r) (now j)) new kept old j (get_or (set gs k true) j false) (get_or (set zs k z) j (pos 0))
    go (inl e) =
        let at : get_or (set zs k z) j (pos 0) ≡ z = ap (λ i. get_or (set zs k z) i (pos 0)) e ∙ get_or-set_same zs k z (pos 0) (omega arith) in
        let on : get_or (set gs k true) j false ≡ true = ap (λ i. get_or (set gs k true) i false) e ∙ get_or-set_same gs k true false (omega arith) in
        rw (eq-eqb j k e, at, on) (refl, (t, m))
    go (inr ne) = rw (ne_eqb j k ne, get_or-set_other zs k j z (pos 0) ne, get_or-set_other gs k j true false ne) (was j lj)

graded_by : (o : Option Accepted) → is_some o ≡ true → (r : Accepted) × (o ≡ Some r)
graded_by None e = absurd (both_ways false refl e)
graded_by (Some r) e = (r, refl)

due_kept : (now : Rules) (new : ℤ) (kept : Option Rules) (old : ℤ) (k : ℕ) (g : Bool) (z : ℤ) → g ≡ true → Point (now k) new kept old k g z → Due (Some now) new k z
due_kept now new kept old k g z on p =
    let (r, q) = graded_by (now k) (sym p.0 ∙ on) in
    let (t, m) = subst (λ (o : Option Accepted). DueOpen o new kept old k z) q p.1 in
    (r, t, q, m)

module _ (p : Start) (h : History) (s : State) (H : Holds p h s) where
  abbrev Fit : Mode → Type 0
  Fit m = Fitting p.held (resizing h) (points h) (kept_rules h) (kept_step h) (open_rules h) (open_step h) m

  fit : (m : Mode) → s.mode ≡ m → Fit m
  fit m e = subst Fit e H.fitting

  put_in : {c : Call} {a : Reply} {s' : State} (c₀ : Call) (a₀ : Reply) (s₀ : State) → c ≡ c₀ → a ≡ a₀ → s' ≡ s₀ → Holds p ((c₀, a₀) ∷ h) s₀ → Holds p ((c, a) ∷ h) s'
  put_in {c} {a} {s'} c₀ a₀ s₀ ec ea es x =
      subst⁻¹ (λ (d : Call). Holds p ((d, a) ∷ h) s') ec
      (subst⁻¹ (λ (b : Reply). Holds p ((c₀, b) ∷ h) s') ea (subst⁻¹ (λ (t : State). Holds p ((c₀, a₀) ∷ h) t) es x))

  stays : (c : Call) (a : Reply) (s' : State) → Moves s c a s' → Holds p ((c, a) ∷ h) s'
  stays c a s' (refuses f ea eo es) =
      put_in c (Err f) s refl ea es (record { number = H.number; limit = H.limit; step = H.step; vacated = H.vacated; fitting = H.fitting })
  stays c a s' (stops m k r b w t ls zs bs gs f ec rd q ea es) =
      put_in c (Err (at_point k f)) s refl ea es (record { number = H.number; limit = H.limit; step = H.step; vacated = H.vacated; fitting = H.fitting })
  stays c a s' (shows k ec lt ea es) =
      put_in c _ s refl ea es (record { number = H.number; limit = H.limit; step = H.step; vacated = H.vacated; fitting = H.fitting })
  stays c a s' (lays n ls σ ec em nil hand ea es) =
      let f = fit (bare σ) em in
      put_in (lay n) (Ok Laid) _ ec ea es (record {
        number = H.number;
        limit = H.limit;
        step = H.step;
        vacated = λ _. vacant p.held (subst (λ (τ : Memory). live τ ≡ 0) f.3 nil) p.low;
        fitting = (
          f.0,
          hand.1,
          hand.0,
          length-replicate n (pos 0),
          λ k lt. subst⁻¹ (λ (o : Option Rules). Due o (kept_step h) k (get_or (replicate n (pos 0)) k (pos 0))) f.2 (get_or-replicate n k (pos 0) (pos 0) lt),
        );
      })
  stays c a s' (opens t ls zs ec em ea es) =
      let f = fit (laid ls zs) em in
      put_in (open_to t) (Ok (Ticket s.number)) _ ec ea es (record {
        number = H.number;
        limit = H.limit;
        step = H.step;
        vacated = H.vacated;
        fitting = (
          refl,
          f.1,
          f.2,
          f.3,
          f.4,
          f.3,
          length-replicate (length zs) false ∙ f.3,
          refl,
          λ k lt. (get_or-replicate (length zs) k false false (subst⁻¹ (λ j. k < j) f.3 lt), f.4 k lt),
        );
      })
  stays c a s' (grades m k r b w t ls zs bs gs y ec rd q ea es) =
      let f = fit (opened t ls zs bs gs) rd.was in
      let (tl, mean, _, _, _) = (gives_exactly r.tree t b y.shift y.units).0 (told_ok (answer r.tree t b) y q) in
      put_in (grade m k r b w) (Ok (Graded y)) _ ec ea es (record {
        number = H.number;
        limit = H.limit;
        step = H.step;
        vacated = H.vacated;
        fitting = (
          f.0,
          f.1,
          f.2,
          length-set zs k y.shift ∙ f.3,
          f.4,
          f.5,
          length-set gs k true ∙ f.6,
          f.7,
          regraded (open_rules h) (open_step h) (kept_rules h) (kept_step h) zs gs k r tl y.shift (points h) f.3 f.6 (subst (λ j. k < j) f.3 rd.laid_there) (subst (λ (v : ℤ). Means r.tree v tl y.shift) f.7 mean) f.8,
        );
      })
  stays c a s' (keeps m t ls zs bs gs ec em all ea es) =
      let f = fit (opened t ls zs bs gs) em in
      put_in (keep m) (Ok (Kept t)) _ ec ea es (record {
        number = H.number;
        limit = H.limit;
        step = f.7;
        vacated = H.vacated;
        fitting = (refl, f.1, f.2, f.3, λ k lt. due_kept (open_rules h) (open_step h) (kept_rules h) (kept_step h) k _ _ (true_at gs k all (subst⁻¹ (λ j. k < j) f.6 lt)) (f.8 k lt));
      })
  stays c a s' (undoes m t ls zs bs gs ec em ea es) =
      let f = fit (opened t ls zs bs gs) em in
      put_in (undo m) (Ok (Undone s.step)) _ ec ea es (record { number = H.number; limit = H.limit; step = H.step; vacated = H.vacated; fitting = (refl, f.1, f.2, f.5, f.4) })

holds : (p : Start) (h : History) (s : State) → Reached p h s → Holds p h s
holds p [] s e = subst⁻¹ (λ (x : State). Holds p [] x) e (record { number = refl; limit = refl; step = refl; vacated = λ h. absurd (omega arith); fitting = (refl, refl, refl, refl) })
holds p (e ∷ h) s r = stays p h r.0 (holds p h r.0 r.1) e.0 e.1 s (does_moves r.0 e.0 e.1 s r.2)

-- runs on the piece's own store
never_stuck_here : (p : Start) (h : History) (s : State) → Reached p h s → NeverStuckHere p h s
never_stuck_here p h s reach r step a τ room run = (sound_runs p.limit (store s) r.tree r.need step a (passed r) room (stopped Stuck τ) run).0 refl

-- what a grade that tells of a run comes to
record Ran (s : State) (m k : ℕ) (r : Accepted) (a : ℕ) (w : ℕ × ℕ × ℕ) (x : Reply) (y : RunAnswer) : Type 0 where
  new : ℤ
  ls : List ℕ
  zs : List ℤ
  bs : List ℤ
  gs : List Bool
  ready : ReadyAt s m k r w new ls zs bs gs
  comes : told (answer r.tree new a) ≡ Some y
  says : x ≡ said k y

abbrev RanBy : State → Reply → RunAnswer → Call → Type 0
RanBy s x y (lay n) = Unit {0}
RanBy s x y (open_to t) = Unit {0}
RanBy s x y (grade m k r a w) = Ran s m k r a w x y
RanBy s x y (keep m) = Unit {0}
RanBy s x y (undo m) = Unit {0}
RanBy s x y (show k) = Unit {0}

moved : (s : State) (m₁ k₁ : ℕ) (r₁ : Accepted) (a₁ : ℕ) (w₁ : ℕ × ℕ × ℕ) (m k : ℕ) (r : Accepted) (a : ℕ) (w : ℕ × ℕ × ℕ) (x : Reply) (y : RunAnswer)
    → grade m₁ k₁ r₁ a₁ w₁ ≡ grade m k r a w → Ran s m₁ k₁ r₁ a₁ w₁ x y → Ran s m k r a w x y
moved s m₁ k₁ r₁ a₁ w₁ m k r a w x y e g = subst (RanBy s x y) e g

ran : (s : State) (c : Call) (x : Reply) (s' : State) (m k : ℕ) (r : Accepted) (a : ℕ) (w : ℕ × ℕ × ℕ) (y : RunAnswer)
    → c ≡ grade m k r a w → run_of x ≡ Some y → Moves s c x s' → Ran s m k r a w x y
ran s c x s' m k r a w y e ey (refuses f ex eo es) = let q : run_of x ≡ None = ap run_of ex ∙ eo in never (cc)
ran s c x s' m k r a w y e ey (shows j ec lt ex es) = never (cc)
ran s c x s' m k r a w y e ey (lays n ls σ ec em nil hand ex es) = never (cc)
ran s c x s' m k r a w y e ey (opens t ls zs ec em ex es) = never (cc)
ran s c x s' m k r a w y e ey (keeps j t ls zs bs gs ec em all ex es) = never (cc)
ran s c x s' m k r a w y e ey (undoes j t ls zs bs gs ec em ex es) = never (cc)
ran s c x s' m k r a w y e ey (stops m₁ k₁ r₁ b₁ w₁ t ls zs bs gs f ec rd q ex es) =
    let ey₁ : y ≡ Err f = some_same (sym (told_stop (answer r₁.tree t b₁) k₁ f q) ∙ sym (ap run_of ex) ∙ ey) in
    moved s m₁ k₁ r₁ b₁ w₁ m k r a w x y (sym ec ∙ e) (record {
      new = t;
      ls = ls;
      zs = zs;
      bs = bs;
      gs = gs;
      ready = rd;
      comes = q ∙ ap Some (sym ey₁);
      says = ex ∙ ap (said k₁) (sym ey₁);
    })
ran s c x s' m k r a w y e ey (grades m₁ k₁ r₁ b₁ w₁ t ls zs bs gs g ec rd q ex es) =
    let ez : y ≡ Ok g = some_same (sym (ap run_of ex) ∙ ey) in
    moved s m₁ k₁ r₁ b₁ w₁ m k r a w x y (sym ec ∙ e) (record { new = t; ls = ls; zs = zs; bs = bs; gs = gs; ready = rd; comes = q ∙ ap Some (sym ez); says = ex ∙ ap (said k₁) (sym ez) })

-- at the step of the resize, with room in the store, and all ready
record RanWell (p : Start) (h : History) (s : State) (m k : ℕ) (r : Accepted) (a : ℕ) (w : ℕ × ℕ × ℕ) (x : Reply) (y : RunAnswer) : Type 0 where
  room : live (store s) + r.need ≤ p.limit
  comes : told (answer r.tree (open_step h) a) ≡ Some y
  says : x ≡ said k y
  ready : Ready p h s m k r w

ran_well : (p : Start) (h : History) (s s' : State) (m k : ℕ) (r : Accepted) (a : ℕ) (w : ℕ × ℕ × ℕ) (x : Reply) (y : RunAnswer)
    → Reached p h s → Does s (grade m k r a w) x s' → run_of x ≡ Some y → RanWell p h s m k r a w x y
ran_well p h s s' m k r a w x y reach d e =
    let H = holds p h s reach in
    let g = ran s (grade m k r a w) x s' m k r a w y refl e (does_moves s (grade m k r a w) x s' d) in
    let rd = g.ready in
    let f = fit p h s H _ rd.was in
    let room : live (holding g.ls g.zs) + r.need ≤ p.limit = subst (λ j. live (holding g.ls g.zs) + r.need ≤ j) H.limit rd.room in
    let l₂ = f.2 in
    let l₃ = f.3 in
    let n = held_count g.ls g.zs f.1 (omega arith) in
    let lt = rd.laid_there in
    record {
      room = subst⁻¹ (λ (j : Mode). live (store_of j) + r.need ≤ p.limit) rd.was room;
      comes = ap (λ (t : ℤ). told (answer r.tree t a)) (sym f.7) ∙ g.comes;
      says = g.says;
      ready = (rd.ours ∙ H.number, f.0, omega arith, rd.long, omega arith);
    }

tells : (c : Com) (step : ℤ) (a : ℕ) (σ : Memory) (y : RunAnswer) (o : Out ℤ) → told (answer c step a) ≡ Some y → AsAnswered c step a σ o → Tells y a σ o
tells c step a σ y (stopped s τ) e h = (sym (ap told h.1) ∙ e, h.2)
tells c step a σ y (ended z τ u) e h = (some_same (sym (ap told h.1) ∙ e), h.0, h.2)

faithful : (p : Start) (h : History) (s : State) → Reached p h s → Faithful p h s
faithful p h s reach m k r a w x s' y d e =
    let g = ran_well p h s s' m k r a w x y reach d e in (
      g.says,
      λ o run. tells r.tree (open_step h) a (store s) y o g.comes (sound_runs p.limit (store s) r.tree r.need (open_step h) a (passed r) g.room o run),
      λ top. runs_exist p.limit (store s) r.tree r.need (open_step h) a (passed r) g.room top,
    )

some_run : (s : State) (k : ℕ) (t : ℤ) (ls : List ℕ) (zs bs : List ℤ) (gs : List Bool) (y : Result Grading Stop) → (y ≡ Err Stuck → ⊥)
    → (v : RunAnswer) × ((does_run s k t ls zs bs gs (told y)).0 ≡ Some (said k v)) × (run_of (said k v) ≡ Some v)
some_run s k t ls zs bs gs (Ok g) n = (Ok g, refl, refl)
some_run s k t ls zs bs gs (Err (Sum i)) n = (Err (fault (layers.Run run_causes.Sum) i), refl, refl)
some_run s k t ls zs bs gs (Err (UnitStop i)) n = (Err (fault (layers.Run run_causes.Unit) i), refl, refl)
some_run s k t ls zs bs gs (Err Stuck) n = absurd (n refl)

reaches : (p : Start) (h : History) (s : State) → Reached p h s → Reaches p h s
reaches p h s reach m k r a w x s' d = (there, λ q. (ran_well p h s s' m k r a w x q.0 reach d q.1).ready)
  where
    go : Holds p h s → Ready p h s m k r w → (x : Mode) → Fitting p.held (resizing h) (points h) (kept_rules h) (kept_step h) (open_rules h) (open_step h) x
        → (y : RunAnswer) × ((does_grade s m k r a w x).0 ≡ Some (said k y)) × (run_of (said k y) ≡ Some y)
    go H rd (bare σ) f = let e = f.1 in let lt = rd.2 in absurd (omega arith)
    go H rd (laid ls zs) f = absurd (both_ways _ f.0 rd.1)
    go H rd (opened t ls zs bs gs) f =
        let (ours, on, lt, long, room) = rd in
        let e₁ : eqb m s.number ≡ true = eq-eqb _ _ (ours ∙ sym H.number) in
        let l₂ = f.2 in
        let l₃ = f.3 in
        let l₄ = H.limit in
        let e₂ : ltb k (length zs) ≡ true = lt-ltb k _ (omega arith) in
        let n = held_count ls zs f.1 (omega arith) in
        let e₄ : leb (live (holding ls zs) + r.need) s.limit ≡ true = le-leb _ _ (omega arith) in
        rw (e₁, e₂, long, e₄) (some_run s k t ls zs bs gs (answer r.tree t a) (not_stuck r t a))

    there : Ready p h s m k r w → (y : RunAnswer) × (run_of x ≡ Some y)
    there rd =
        let H = holds p h s reach in
        let (y, e, q) = go H rd s.mode H.fitting in
        (y, ap run_of (some_same (sym e ∙ d.answers)) ∙ q)

live_points : (p : Start) (h : History) (s : State) → Reached p h s → Live p h s
live_points p h s reach some_laid = let H = holds p h s reach in go H s.mode H.fitting
  where
    go : Holds p h s → (m : Mode) → Fitting p.held (resizing h) (points h) (kept_rules h) (kept_step h) (open_rules h) (open_step h) m
        → Free (locations_of m) × (length (locations_of m) ≡ points h) × ((l : ℕ) → Apart l (locations_of m) → store_of m l ≡ None) × (live (store_of m) ≡ points h) × ((l : ℕ) → p.held l ≡ None)
    go H (bare σ) f = let e = f.1 in absurd (omega arith)
    go H (laid ls zs) f = (f.1, f.2, λ l a. absent l ls zs a, held_count ls zs f.1 (f.3 ∙ sym f.2) ∙ f.2, H.vacated some_laid)
    go H (opened t ls zs bs gs) f = (f.1, f.2, λ l a. absent l ls zs a, held_count ls zs f.1 (f.3 ∙ sym f.2) ∙ f.2, H.vacated some_laid)

-- runs that are alike
came : (c : Com) (step : ℤ) (a : ℕ) (y : RunAnswer) → Came c step a y → told (answer c step a) ≡ Some y
came c step a y k =
    let (s, reach, d) = k.performed in
    let g = ran_well k.piece k.before s k.after k.ticket k.point k.rule a k.lists k.reply y reach d k.ran in
    ap₂ (λ (b : Com) (t : ℤ). told (answer b t a)) (sym k.by) (sym k.in_step) ∙ g.comes

pub alike : Alike
alike c step a y y' k k' = some_same (sym (came c step a y' k') ∙ came c step a y k)

pub steady : Steady
steady c step a z u k =
    let (t, mean, n, from, below) = steadily c step a z u (told_ok (answer c step a) (graded z u) (came c step a (Ok (graded z u)) k)) in
    (t, mean, n, λ b y k'. let e = came c step b y k' in (λ l. some_same (sym (ap told (from b l)) ∙ e), λ l. some_same (sym (ap told (below b l)) ∙ e)))

-- shifts
seen : (p : Start) (h : History) (s : State) (k : ℕ) (ls : List ℕ) (zs : List ℤ) (m : Mode) → Holds p h s → s.mode ≡ m
    → shifts_of m ≡ zs → locations_of m ≡ ls → store_of m ≡ holding ls zs → Free ls → length zs ≡ length ls → k < length ls
    → Seen s k (get_or zs k (pos 0)) (kept_step h)
seen p h s k ls zs m H e ez el eh f q lt =
    let below : ltb k (length zs) ≡ true = lt-ltb k _ (omega arith) in (
      subst⁻¹ (λ (x : Mode). store_of x (get_or (locations_of x) k 0) ≡ Some (whole_value (get_or zs k (pos 0)))) e
          (ap₂ (λ (σ : Memory) (js : List ℕ). σ (get_or js k 0)) eh el ∙ held_at ls zs k f q lt),
      λ x s' d.
          let q : (does_show s k zs).0 ≡ Some (Ok (shown (get_or zs k (pos 0)) (kept_step h))) = rw (below, H.step) refl in
          some_same (sym (ap (λ (x : Mode). (does_show s k (shifts_of x)).0) e ∙ ap (λ (ys : List ℤ). (does_show s k ys).0) ez ∙ q) ∙ d.answers),
    )

stands : (p : Start) (h : History) (s : State) → Reached p h s → Stands p h s
stands p h s reach k off lt = let H = holds p h s reach in go H s.mode refl H.fitting
  where
    go : Holds p h s → (m : Mode) → s.mode ≡ m → Fitting p.held (resizing h) (points h) (kept_rules h) (kept_step h) (open_rules h) (open_step h) m
        → (z : ℤ) × Due (kept_rules h) (kept_step h) k z × Seen s k z (kept_step h)
    go H (bare σ) e f = let z = f.1 in absurd (omega arith)
    go H (opened t ls zs bs gs) e f = absurd (both_ways _ off f.0)
    go H (laid ls zs) e f =
        let l₂ = f.2 in
        let l₃ = f.3 in
        (get_or zs k (pos 0), f.4 k lt, seen p h s k ls zs (laid ls zs) H e refl refl refl f.1 (omega arith) (omega arith))

stands_open : (p : Start) (h : History) (s : State) → Reached p h s → StandsOpen p h s
stands_open p h s reach k on lt = let H = holds p h s reach in go H s.mode refl H.fitting
  where
    go : Holds p h s → (m : Mode) → s.mode ≡ m → Fitting p.held (resizing h) (points h) (kept_rules h) (kept_step h) (open_rules h) (open_step h) m
        → (z : ℤ) × DueOpen (open_rules h k) (open_step h) (kept_rules h) (kept_step h) k z × Seen s k z (kept_step h)
    go H (bare σ) e f = let z = f.1 in absurd (omega arith)
    go H (laid ls zs) e f = absurd (both_ways _ f.0 on)
    go H (opened t ls zs bs gs) e f =
        let l₂ = f.2 in
        let l₃ = f.3 in
        (get_or zs k (pos 0), (f.8 k lt).1, seen p h s k ls zs (opened t ls zs bs gs) H e refl refl refl f.1 (omega arith) (omega arith))

after_some : (o : Option ℕ) (i : ℕ) → after_true o ≡ Some i → (j : ℕ) × (o ≡ Some j) × (i ≡ suc j)
after_some None i e = never (cc)
after_some (Some j) i e = (j, refl, some_same e)

-- the lowest that is not graded
lowest : (gs : List Bool) (i : ℕ) → lowest_false gs ≡ Some i
    → (i < length gs) × (get_or gs i false ≡ false) × ((j : ℕ) → j < i → get_or gs j false ≡ true)
lowest [] i e = never (cc)
lowest (false ∷ gs) i e =
    subst⁻¹ (λ (n : ℕ). (n < length (false ∷ gs)) × (get_or (false ∷ gs) n false ≡ false) × ((j : ℕ) → j < n → get_or (false ∷ gs) j false ≡ true)) (some_same e)
    (omega arith, refl, λ j lt. absurd (omega arith))
lowest (true ∷ gs) i e =
    let (k, q, n) = after_some (lowest_false gs) i e in
    let (a, b, c) = lowest gs k q in
    subst⁻¹ (λ (n : ℕ). (n < length (true ∷ gs)) × (get_or (true ∷ gs) n false ≡ false) × ((j : ℕ) → j < n → get_or (true ∷ gs) j false ≡ true)) n
    (omega arith, b, elim [ zero ↦ λ lt. refl | suc j ↦ λ lt. c j (omega arith) ])

ungraded : (o : Option Accepted) → is_some o ≡ false → o ≡ None
ungraded None e = refl
ungraded (Some r) e = absurd (both_ways _ e refl)

keeps_told : (p : Start) (h : History) (s : State) → Reached p h s → Keeps p h s
keeps_told p h s reach x s' d on = let H = holds p h s reach in go H s.mode d.answers H.fitting
  where
    Told : Type 0
    Told = (AllGraded h (points h) × (x ≡ Ok (Kept (open_step h))))
        ⊎ ((k : ℕ) × (k < points h) × AllGraded h k × (open_rules h k ≡ None) × (x ≡ Err (fault (layers.Piece causes.Ungraded) k)))

    go : Holds p h s → (m : Mode) → (does_keep s p.number m).0 ≡ Some x → Fitting p.held (resizing h) (points h) (kept_rules h) (kept_step h) (open_rules h) (open_step h) m → Told
    go H (bare σ) e f = absurd (both_ways _ f.0 on)
    go H (laid ls zs) e f = absurd (both_ways _ f.0 on)
    go H (opened t ls zs bs gs) e f =
        at (lowest_false gs) refl (sym (ap (λ (b : Bool). (cond b (does_end s t ls zs (lowest_false gs)) (refused causes.Ticket 0 s)).0) (eq-eqb _ _ (sym H.number))) ∙ e)
      where
        by_rule : (j : ℕ) → j < points h → get_or gs j false ≡ true → (r : Accepted) × (open_rules h j ≡ Some r)
        by_rule j lt q = graded_by (open_rules h j) (sym (f.8 j lt).0 ∙ q)

        at : (o : Option ℕ) → lowest_false gs ≡ o → (does_end s t ls zs o).0 ≡ Some x → Told
        at None q e = inl (λ j lt. by_rule j lt (true_at gs j q (subst⁻¹ (λ n. j < n) f.6 lt)), some_same e ∙ ap {B = Reply} (λ (t : ℤ). Ok (Kept t)) f.7)
        at (Some k) q e =
            let (a, b, c) = lowest gs k q in
            let l = f.6 in
            inr (k, omega arith, λ j lt. by_rule j (omega arith) (c j lt), ungraded (open_rules h k) (sym (f.8 k (omega arith)).0 ∙ b), some_same e)

undoes_told : (p : Start) (h : History) (s : State) → Reached p h s → Undoes p h s
undoes_told p h s reach x s' d on = let H = holds p h s reach in go H s.mode d.answers H.fitting
  where
    go : Holds p h s → (m : Mode) → (does_undo s p.number m).0 ≡ Some x → Fitting p.held (resizing h) (points h) (kept_rules h) (kept_step h) (open_rules h) (open_step h) m
        → x ≡ Ok (Undone (kept_step h))
    go H (bare σ) e f = absurd (both_ways _ f.0 on)
    go H (laid ls zs) e f = absurd (both_ways _ f.0 on)
    go H (opened t ls zs bs gs) e f =
        let q : (does_undo s p.number (opened t ls zs bs gs)).0 ≡ Some (Ok (Undone (kept_step h))) = rw (eq-eqb p.number s.number (sym H.number), H.step) refl in
        some_same (sym q ∙ e)

-- since a resize was opened from a laid state: it is still open, or Some points are laid and quiet is open
data Since (s₀ : State) (ls : List ℕ) (xs : List ℤ) (s : State) : Type 0 where
  still : (t : ℤ) (ys : List ℤ) (gs : List Bool) → s ≡ with_mode s₀ (opened t ls ys xs gs) → Since s₀ ls xs s
  over : (ks : List ℕ) (ys : List ℤ) → s.mode ≡ laid ks ys → Since s₀ ls xs s

not_opened : (a : Reply) (m : ℕ) (b : Bool) → a ≡ Ok (Ticket m) → none_opened_at a b ≡ true → ⊥
not_opened a m b e h = both_ways false refl (subst (λ (x : Reply). none_opened_at x b ≡ true) e h)

rest_opens_quiet : (a : Reply) (b : Bool) → none_opened_at a b ≡ true → b ≡ true
rest_opens_quiet (Ok Laid) b e = e
rest_opens_quiet (Ok (Ticket n)) b e = absurd (both_ways false refl e)
rest_opens_quiet (Ok (Graded g)) b e = e
rest_opens_quiet (Ok (Kept t)) b e = e
rest_opens_quiet (Ok (Undone t)) b e = e
rest_opens_quiet (Ok (Shown w)) b e = e
rest_opens_quiet (Err f) b e = e

mode_is : (s s₀ : State) (m m' : Mode) → s ≡ with_mode s₀ m → s.mode ≡ m' → m ≡ m'
mode_is s s₀ m m' e f = sym (ap (λ (x : State). x.mode) e) ∙ f

module _ (s₀ : State) (ls : List ℕ) (xs : List ℤ) where
  since_moves : (s : State) (c : Call) (a : Reply) (s' : State) (b : Bool) → none_opened_at a b ≡ true → Since s₀ ls xs s → Moves s c a s' → Since s₀ ls xs s'
  since_moves s c a s' b quiet S (refuses f ea eo es) = subst⁻¹ (Since s₀ ls xs) es S
  since_moves s c a s' b quiet S (stops m k r d w t ks zs bs gs f ec rd q ea es) = subst⁻¹ (Since s₀ ls xs) es S
  since_moves s c a s' b quiet S (shows k ec lt ea es) = subst⁻¹ (Since s₀ ls xs) es S
  since_moves s c a s' b quiet (still t ys gs e) (lays n ks σ ec em nil hand ea es) = let f = mode_is s s₀ _ _ e em in never (cc)
  since_moves s c a s' b quiet (over ks ys e) (lays n js σ ec em nil hand ea es) = never (cc)
  since_moves s c a s' b quiet S (opens t ks zs ec em ea es) = absurd (not_opened a s.number b ea quiet)
  since_moves s c a s' b quiet (still t ys gs e) (grades m k r d w u ks zs bs hs y ec rd q ea es) =
      let f = mode_is s s₀ _ _ e rd.was in
      let el : ks ≡ ls = cc in
      let eb : bs ≡ xs = cc in
      still u (set zs k y.shift) (set hs k true)
      (es ∙ ap (λ (x : State). with_mode x (opened u ks (set zs k y.shift) bs (set hs k true))) e
      ∙ ap₂ (λ (i : List ℕ) (j : List ℤ). with_mode s₀ (opened u i (set zs k y.shift) j (set hs k true))) el eb)
  since_moves s c a s' b quiet (over ks ys e) (grades m k r d w u js zs bs hs y ec rd q ea es) = let f = rd.was in never (cc)
  since_moves s c a s' b quiet S (keeps m t ks zs bs gs ec em all ea es) = over ks zs (ap (λ (x : State). x.mode) es)
  since_moves s c a s' b quiet S (undoes m t ks zs bs gs ec em ea es) = over ks bs (ap (λ (x : State). x.mode) es)

  -- an undo that is not refused
  undo_back : (s : State) (c : Call) (t : ℤ) (a : Reply) (s' : State) → a ≡ Ok (Undone t) → s₀.mode ≡ laid ls xs → Since s₀ ls xs s → Moves s c a s' → s' ≡ s₀
  undo_back s c t a s' e e₀ S (refuses f ea eo es) = never (cc)
  undo_back s c t a s' e e₀ S (stops m k r d w v ks zs bs gs f ec rd q ea es) = never (cc)
  undo_back s c t a s' e e₀ S (shows k ec lt ea es) = never (cc)
  undo_back s c t a s' e e₀ S (lays n ks σ ec em nil hand ea es) = never (cc)
  undo_back s c t a s' e e₀ S (opens u ks zs ec em ea es) = never (cc)
  undo_back s c t a s' e e₀ S (grades m k r d w u ks zs bs hs y ec rd q ea es) = never (cc)
  undo_back s c t a s' e e₀ S (keeps m u ks zs bs gs ec em all ea es) = never (cc)
  undo_back s c t a s' e e₀ (over ks ys eo) (undoes m u js zs bs gs ec em ea es) = never (cc)
  undo_back s c t a s' e e₀ (still v ys hs eo) (undoes m u ks zs bs gs ec em ea es) =
      let f = mode_is s s₀ _ _ eo em in
      let el : ks ≡ ls = cc in
      let eb : bs ≡ xs = cc in
      es ∙ ap (λ (x : State). with_mode x (laid ks bs)) eo ∙ ap₂ (λ (i : List ℕ) (j : List ℤ). with_mode s₀ (laid i j)) el eb ∙ ap (with_mode s₀) (sym e₀)

-- after the events since an open
record Began (s s' : State) : Type 0 where
  ls : List ℕ
  xs : List ℤ
  was : s.mode ≡ laid ls xs
  since : Since s ls xs s'

began : (s : State) (c : Call) (j : ℕ) (a : Reply) (s' : State) → a ≡ Ok (Ticket j) → Moves s c a s' → Began s s'
began s c j a s' e (refuses f ea eo es) = never (cc)
began s c j a s' e (stops m k r d w v ks zs bs gs f ec rd q ea es) = never (cc)
began s c j a s' e (shows k ec lt ea es) = never (cc)
began s c j a s' e (lays n ks σ ec em nil hand ea es) = never (cc)
began s c j a s' e (opens u ks zs ec em ea es) = record { ls = ks; xs = zs; was = em; since = still u zs _ es }
began s c j a s' e (grades m k r d w u ks zs bs hs y ec rd q ea es) = never (cc)
began s c j a s' e (keeps m u ks zs bs gs ec em all ea es) = never (cc)
began s c j a s' e (undoes m u ks zs bs gs ec em ea es) = never (cc)

went : (s₀ : State) (j : ℕ) (u : ℤ) (r : History) (s : State) → none_opened r ≡ true → Goes s₀ (r ++ (open_to u, Ok (Ticket j)) ∷ []) s → Began s₀ s
went s₀ j u [] s quiet g =
    let (s₁, e, d) = g in
    subst (λ (x : State). Began x s) e (began s₁ (open_to u) j (Ok (Ticket j)) s refl (does_moves s₁ (open_to u) (Ok (Ticket j)) s d))
went s₀ j u (e ∷ r) s quiet g =
    let (s₁, g₁, d) = g in
    let w = went s₀ j u r s₁ (rest_opens_quiet e.1 (none_opened r) quiet) g₁ in
    record { ls = w.ls; xs = w.xs; was = w.was; since = since_moves s₀ w.ls w.xs s₁ e.0 e.1 s (none_opened r) quiet w.since (does_moves s₁ e.0 e.1 s d) }

pub undone_wholly : UndoneWholly
undone_wholly s s' m j t u during quiet g =
    let (s₁, g₁, d) = g in
    let w = went s j u during s₁ quiet g₁ in
    undo_back s w.ls w.xs s₁ (undo m) t (Ok (Undone t)) s' refl w.was w.since (does_moves s₁ (undo m) (Ok (Undone t)) s' d)

refused_same : (s s' : State) (c : Call) (a : Reply) (f : Fault) → a ≡ Err f → Moves s c a s' → s' ≡ s
refused_same s s' c a f e (refuses f₁ ea eo es) = es
refused_same s s' c a f e (stops m k r d w v ks zs bs gs f₁ ec rd q ea es) = es
refused_same s s' c a f e (shows k ec lt ea es) = es
refused_same s s' c a f e (lays n ks σ ec em nil hand ea es) = never (cc)
refused_same s s' c a f e (opens u ks zs ec em ea es) = never (cc)
refused_same s s' c a f e (grades m k r d w u ks zs bs hs y ec rd q ea es) = never (cc)
refused_same s s' c a f e (keeps m u ks zs bs gs ec em all ea es) = never (cc)
refused_same s s' c a f e (undoes m u ks zs bs gs ec em ea es) = never (cc)

pub refused_wholly : RefusedWholly
refused_wholly s s' c f d = refused_same s s' c (Err f) f refl (does_moves s c (Err f) s' d)

pub always : Always
always p h s reach = record {
  never_stuck = never_stuck_here p h s reach;
  faithful = faithful p h s reach;
  reaches = reaches p h s reach;
  live_points = live_points p h s reach;
  stands = stands p h s reach;
  stands_open = stands_open p h s reach;
  keeps = keeps_told p h s reach;
  undoes = undoes_told p h s reach;
}

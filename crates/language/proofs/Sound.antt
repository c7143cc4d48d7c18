-- Every run of an accepted rule, on any store with room for its need, is the reference's.
use Rattle.std.proofs.Common.{◌≡◌, ℕ, zero, suc, ◌+◌, ◌-◌, ◌≤◌, Bool, true, false, cond, eqb, List, [], ◌∷◌, length, drop, ℤ, pos, None, Ok, Err, Result, sym, refl, ap, ◌∙◌, subst, inl, inr, arith}
use mathlib.Core.Option.{Option as Found}
use Rattle.std.proofs.lemmas.Bool.{eq-eqb}
use Rattle.language.specs.declared.values.Scalar.{Scalar}
use Rattle.language.specs.declared.values.Scalar.TheVariants.{Whole as wholes, Truth as truths}
use Rattle.language.specs.declared.values.Value.{Value}
use Rattle.language.specs.declared.values.Value.TheVariants.{Whole as whole_value}
use Rattle.language.specs.declared.values.Stop.{Stop}
use Rattle.language.specs.declared.values.Stop.TheVariants.{Unit as UnitStop, Stuck}
use Rattle.language.specs.Results as Q
use Rattle.language.specs.Results.{or_else}
use Rattle.language.specs.Memory.{Memory, live}
use Rattle.language.specs.Stack.{value_at}
use Rattle.language.specs.Sight.{Sight, look, Bound, find, placed}
use Rattle.language.specs.Sight as S
use Rattle.language.specs.Tree.{Decl, Arg, Expr, Com, Procs, Coms, null, assign, if, while, call, block, pnil, pcons, cnil, ccons}
use Rattle.language.specs.Names.{Entry, variable, procedure, types, proc_names, check_expr, check_com, check_procs, check_coms, outset}
use Rattle.language.specs.Reference as R
use Rattle.language.specs.Reference.{graded, answer}
use Rattle.language.specs.Runs as M
use Rattle.language.specs.Runs.{Out, ended, stopped, Step, Env, give, stop, answered, tick, fetch, take_one, take_all, release_all, ◌releasing◌, locations, Loop, no_unit, no_test, leaves, no_body, again}
use Rattle.language.specs.Counting.{live_none}
use Rattle.language.specs.Laws.{AsAnswered, SoundRuns, RunsExist, NeverStuck}
use Rattle.language.proofs.Binds.{no_ok, no_some, ok_is, bind_ok}
use Rattle.language.proofs.Checked.{assign_parts, if_parts, while_parts, call_parts, block_parts, procs_parts, coms_parts}
use Rattle.language.proofs.Sim.{Sim, Agree, stops, ends, bind, gives, halts, begins, begins_suc, begins_zero, ticks, weaker, releases, end≢stop, moved}
use Rattle.language.proofs.World.{overlay, Typed, Fine, pushed, as_long, releasable, all_cleared, drop_typed}
use Rattle.language.proofs.Names.{Back, Rel, a_procedure, Related, places, Runs, as_is, grow_env, formals_env, block_env, proc_env, place_env, without_env}
use Rattle.language.proofs.Steps.{World, Yields, located_sim, fetch_sim, bind_value, value_sim, test_sim, whole_sim, store_sim, FoundArgs, args_sim, taken_one, taken_sim, released_sim}

-- one turn of a while, forth and back
abbrev turned : (i : ℕ) (test : Step Bool) (body : Step (Unit {0})) → Step (Unit {0})
turned i test body = M.◌>>=◌ test (λ b. cond b (M.◌>>=◌ body (λ _. Loop i test body)) (give tt))

unrolled : (i : ℕ) (test : Step Bool) (body : Step (Unit {0})) {σ : Memory} {u : ℕ} {o : Out (Unit {0})} → Loop i test body σ u o
    → M.◌>>=◌ (tick i) (λ _. turned i test body) σ u o
unrolled i test body (no_unit {σ}) = inl (UnitStop i, σ, refl, refl)
unrolled i test body (no_test {σ} {τ} {u} {s} t) = inr (tt, σ, u, refl, inl (s, τ, t, refl))
unrolled i test body (leaves {σ} {τ} {u} {w} t) = inr (tt, σ, u, refl, inr (false, τ, w, t, refl))
unrolled i test body (no_body {σ} {σ'} {τ} {u} {w} {s} t b) = inr (tt, σ, u, refl, inr (true, σ', w, t, inl (s, τ, b, refl)))
unrolled i test body (again {σ} {σ'} {σ''} {u} {w} {v} {o} t b l) = inr (tt, σ, u, refl, inr (true, σ', w, t, inr (tt, σ'', v, b, l)))

module _ (i : ℕ) (test : Step Bool) (body : Step (Unit {0})) where
  reroll_test : (σ : Memory) (u : ℕ) (o : Out (Unit {0})) (b : Bool) (σ' : Memory) (w : ℕ) → test σ u (ended b σ' w)
      → cond b (M.◌>>=◌ body (λ _. Loop i test body)) (give tt) σ' w o → Loop i test body σ (suc u) o
  reroll_test σ u o true σ' w t (inl h) = subst (Loop i test body σ (suc u)) (sym h.3) (no_body t h.2)
  reroll_test σ u o true σ' w t (inr h) = again t h.3 h.4
  reroll_test σ u o false σ' w t h = subst (Loop i test body σ (suc u)) (sym h) (leaves t)

  reroll_turn : (σ : Memory) (u : ℕ) (o : Out (Unit {0})) → turned i test body σ u o → Loop i test body σ (suc u) o
  reroll_turn σ u o (inl h) = subst (Loop i test body σ (suc u)) (sym h.3) (no_test h.2)
  reroll_turn σ u o (inr h) = reroll_test σ u o h.0 h.1 h.2 h.3 h.4

  rerolled : (σ : Memory) (u : ℕ) (o : Out (Unit {0})) → M.◌>>=◌ (tick i) (λ _. turned i test body) σ u o → Loop i test body σ u o
  rerolled σ zero o (inl h) = subst (Loop i test body σ zero) (sym (h.3 ∙ h.2)) no_unit
  rerolled σ zero o (inr h) = absurd (end≢stop h.3)
  rerolled σ (suc u) o (inl h) = absurd (end≢stop (sym h.2))
  rerolled σ (suc u) o (inr h) = reroll_turn σ u o (moved (λ _. turned i test body) h.3 h.4)

as_many : (ds : List Decl) → length (types ds) ≡ length ds
as_many [] = refl
as_many (d ∷ ds) = ap suc (as_many ds)

up : (fuel f a : ℕ) → fuel ≡ suc f → a ≤ f → a ≤ fuel
up fuel f a e h = omega arith

-- what comes after a test
bind_test : {limit : ℕ} {B : Memory → Type 0} {C Y : Type 0} (m : Step Bool) (k : Bool → Step C) {σ : Memory} {u : ℕ} {x : Result Bool Stop}
    {mem : C → Y → Memory} {left : C → Y → ℕ} {T : C → Y → Type 0} (j : Bool → Result Y Stop)
    → Yields {A = Bool} {X = Bool} limit B σ u (λ a b. a ≡ b) m x
    → Sim limit B (k true) σ u mem left T (j true) → Sim limit B (k false) σ u mem left T (j false)
    → Sim limit B (M.◌>>=◌ m k) σ u mem left T (Q.◌>>=◌ x j)
bind_test {limit} {B} m k {σ} {u} {mem} {left} {T} j S t f =
    bind m k j S (λ a b p. subst (λ a. Sim limit B (k a) σ u mem left T (j b)) (sym p) (both b))
  where
    both : (b : Bool) → Sim limit B (k b) σ u mem left T (j b)
    both true = t
    both false = f

-- the store of a run is one that it may stop with
back : {σ : Memory} {ls : List ℕ} {ts : List Scalar} {vs : List Value} → World σ ls ts vs → Back σ ls ts (overlay σ ls vs)
back {vs} W = (vs, W.typed, refl)

module _ {limit : ℕ} {σ : Memory} {ls : List ℕ} {ts : List Scalar} {Γ : Sight Entry} {ρ : Env} {ρ' : R.Env} (E : Related limit σ ls ts Γ ρ ρ') where
  module _ (i : ℕ) (e : Expr) (c : Com) (q : check_expr Γ e ≡ Ok truths)
      (body : (vs : List Value) → World σ ls ts vs → (fuel u : ℕ) → u ≤ fuel → Runs limit σ ls ts fuel (M.does limit ρ c) vs u (R.exec fuel ρ' c vs u)) where
    abbrev turn : Step (Unit {0})
    turn = turned i (M.test ρ e) (M.does limit ρ c)

    rolled : (vs : List Value) (fuel u : ℕ) → Runs limit σ ls ts fuel (M.◌>>=◌ (tick i) (λ _. turn)) vs u (R.exec fuel ρ' (while i e c) vs u)
        → Runs limit σ ls ts fuel (M.does limit ρ (while i e c)) vs u (R.exec fuel ρ' (while i e c) vs u)
    rolled vs fuel u S = record {
      run = λ o h. S.run o (unrolled i (M.test ρ e) (M.does limit ρ c) h);
      goes = λ top. let (o, h) = S.goes top in (o, rerolled i (M.test ρ e) (M.does limit ρ c) (overlay σ ls vs) u o h);
    }

    loop_sim : (fuel : ℕ) (vs : List Value) → World σ ls ts vs → (u : ℕ) → u ≤ fuel → Runs limit σ ls ts fuel (M.does limit ρ (while i e c)) vs u (R.exec fuel ρ' (while i e c) vs u)
    loop_sim zero vs W u le = rolled vs zero u (begins_zero i (λ _. turn) u (R.exec zero ρ' (while i e c) vs u) (back W) refl le)
    loop_sim (suc f) vs W u le =
        rolled vs (suc f) u
        (begins_suc i (λ _. turn) f u (λ w. R.exec (suc f) ρ' (while i e c) vs w) (back W) refl le
        (λ w lw.
        let then : Result R.Left Stop = Q.◌>>=◌ (R.exec f ρ' c vs w) (λ s. R.exec f ρ' (while i e c) s.0 s.1) in
        bind_test (M.test ρ e) (λ b. cond b (M.◌>>=◌ (M.does limit ρ c) (λ _. M.does limit ρ (while i e c))) (give tt))
        (λ b. cond b then (Ok (vs, w)))
        (test_sim w (back W) W E e q)
        (bind (M.does limit ρ c) (λ _. M.does limit ρ (while i e c)) (λ s. R.exec f ρ' (while i e c) s.0 s.1) (body vs W f w lw)
        (λ _ y p. weaker (λ _ z r. (r.0, up (suc f) f z.1 refl r.1)) (loop_sim f y.0 (record { fine = W.fine; typed = p.0 }) y.1 p.1)))
        (gives tt _ _ _ (vs, w) refl refl (W.typed, up (suc f) f w refl lw))))

  call_sim : {vs : List Value} {n : ℕ} {tys : List Scalar} {b : Found (Bound (Step (Unit {0})))} {g : R.Found} (xs : List Arg) (fuel f w : ℕ) → Rel limit σ ls ts (procedure tys n) b g → World σ ls ts vs
      → live σ + length ls + n ≤ limit → FoundArgs limit (Back σ ls ts) σ ls ts vs w ρ ρ' xs tys → fuel ≡ suc f → w ≤ f
      → Runs limit σ ls ts fuel (M.◌>>=◌ (locations ρ xs) (λ ys. M.invoke (length xs) b ys)) vs w
      (Q.◌>>=◌ (R.called g) (λ p. Q.◌>>=◌ (R.bind_formals ρ' p.0 p.2 xs) (λ ρ''. R.exec f ρ'' p.1 vs w)))
  call_sim {vs} xs fuel f w (a_procedure k n tys g fs c seen ek el perf) W room F ef lw =
      subst (λ r. Runs limit σ ls ts fuel (M.◌>>=◌ (locations ρ xs) (λ ys. cond (eqb (length xs) k) (g ys) (stop Stuck))) vs w (Q.◌>>=◌ r (λ ρ''. R.exec f ρ'' c vs w)))
      (sym (F.bound fs seen el))
      (bind (locations ρ xs) (λ ys. cond (eqb (length xs) k) (g ys) (stop Stuck)) (λ _. R.exec f (places fs F.ks seen) c vs w) F.found
      (λ zs _ p.
      rw (eq-eqb (length xs) k (F.many ∙ sym ek), p)
      (weaker (λ _ y r. (r.0, up fuel f y.1 ef r.1))
      (perf ls ts as_is W.fine room F.ks F.ys F.matched vs f w W.typed lw))))

-- the release of the locations on top, at an end and at a stop
module _ {limit : ℕ} (σ : Memory) (ls ys : List ℕ) (ts us : List Scalar) (fine : Fine σ (pushed ys ls)) (many : length us ≡ length ys) where
  after_release : {A Y : Type 0} (zs : List Value) (u : ℕ) (k : Step A) {mem : A → Y → Memory} {left : A → Y → ℕ} {T : A → Y → Type 0} (r : Result Y Stop) {B : Memory → Type 0}
      → Typed (pushed ys ls) (pushed us ts) zs → Sim limit B k (overlay σ ls (drop (length ys) zs)) u mem left T r
      → Sim limit B (M.◌>>=◌ (release_all ys) (λ _. k)) (overlay σ (pushed ys ls) zs) u mem left T r
  after_release zs u k {mem} {left} {T} r {B} typed K =
      bind (release_all ys) (λ _. k) {x = Ok (Prim.tt {0})} (λ _. r) (released_sim ys (overlay σ (pushed ys ls) zs) u (releasable σ ys ls (pushed us ts) zs fine typed))
      (λ _ _ _. subst (λ τ. Sim limit B k τ u mem left T r) (sym (all_cleared σ ys ls us ts zs many fine typed)) K)

  stop_release : {A Y : Type 0} {mem : A → Y → Memory} {left : A → Y → ℕ} {T : A → Y → Type 0} (s : Stop) (τ : Memory) → (s ≡ Stuck → ⊥) → Back σ (pushed ys ls) (pushed us ts) τ
      → Sim {A = A} {X = Y} limit (Back σ ls ts) (M.◌>>=◌ (release_all ys) (λ _. stop s)) τ 0 mem left T (Err s)
  stop_release {A} {Y} {mem} {left} {T} s τ ns b =
      subst (λ τ. Sim {A = A} {X = Y} limit (Back σ ls ts) (M.◌>>=◌ (release_all ys) (λ _. stop s)) τ 0 mem left T (Err s)) (sym b.2)
      (after_release b.0 0 (stop s) (Err s) b.1 (halts s ns (drop (length ys) b.0, drop_typed ys ls us ts b.0 many b.1, refl)))

module _ (limit : ℕ) (σ : Memory) where
  mutual
    sim : (c : Com) {Γ : Sight Entry} (n : ℕ) {ρ : Env} {ρ' : R.Env} {ls : List ℕ} {ts : List Scalar} {vs : List Value}
        → check_com Γ c ≡ Ok n → Related limit σ ls ts Γ ρ ρ' → World σ ls ts vs → live σ + length ls + n ≤ limit
        → (fuel u : ℕ) → u ≤ fuel → Runs limit σ ls ts fuel (M.does limit ρ c) vs u (R.exec fuel ρ' c vs u)
    sim (null i) n {ρ'} {vs} q E W room fuel u le =
        ticks i fuel u (λ f w. R.exec f ρ' (null i) vs w) (back W) (λ w. refl) (λ f. refl) le (λ f w ef lw. ends tt (vs, w) refl refl (W.typed, up fuel f w ef lw))
    sim (assign i m e) {Γ} n {ρ} {ρ'} {ls} {vs} q E W room fuel u le =
        let (t, q₁, q₂) = assign_parts Γ i m e n q in
        begins i (λ _. M.◌>>=◌ (M.value ρ e) (λ v. M.◌>>=◌ (M.located (find m ρ)) (λ l. M.store l v))) fuel u (λ f w. R.exec f ρ' (assign i m e) vs w) (back W) (λ w. refl) (λ f. refl) le
        (λ f w ef lw.
        let fin : ℕ → Value → Result R.Left Stop = λ k v. Q.◌>>=◌ (R.write vs k v) (λ vs'. Ok (vs', w)) in
        bind_value (M.value ρ e) (λ v. M.◌>>=◌ (M.located (find m ρ)) (λ l. M.store l v)) (λ v. Q.◌>>=◌ (R.located (R.look m ρ')) (λ k. fin k v))
        (value_sim w (back W) W E e t q₁)
        (λ v hv. bind (M.located (find m ρ)) (λ l. M.store l v) (λ k. fin k v) (located_sim (overlay σ ls vs) w (E.named m (variable t) q₂))
        (λ l k wh. store_sim fuel w k l t v W wh hv (up fuel f w ef lw))))
    sim (if i e c d) {Γ} n {ρ} {ρ'} {vs} q E W room fuel u le =
        let (q₁, (a, b, q₂, q₃, em)) = if_parts Γ i e c d n q in
        let k : Bool → Step (Unit {0}) = λ b. cond b (M.does limit ρ c) (M.does limit ρ d) in
        begins i (λ _. M.◌>>=◌ (M.test ρ e) k) fuel u (λ f w. R.exec f ρ' (if i e c d) vs w) (back W) (λ w. refl) (λ f. refl) le
        (λ f w ef lw.
        bind_test (M.test ρ e) k (λ b. cond b (R.exec f ρ' c vs w) (R.exec f ρ' d vs w)) (test_sim w (back W) W E e q₁)
        (weaker (λ _ y p. (p.0, up fuel f y.1 ef p.1)) (sim c a q₂ E W (omega arith) f w lw))
        (weaker (λ _ y p. (p.0, up fuel f y.1 ef p.1)) (sim d b q₃ E W (omega arith) f w lw)))
    sim (while i e c) {Γ} n {vs} q E W room fuel u le =
        let (q₁, q₂) = while_parts Γ i e c n q in
        loop_sim E i e c q₁ (λ vs W f w lw. sim c n q₂ E W room f w lw) fuel vs W u le
    sim (call i m xs) {Γ} n {ρ} {ρ'} {vs} q E W room fuel u le =
        let (tys, q₁, q₂) = call_parts Γ i m xs n q in
        begins i (λ _. M.◌>>=◌ (locations ρ xs) (λ ys. M.invoke (length xs) (find m ρ) ys)) fuel u (λ f w. R.exec f ρ' (call i m xs) vs w) (back W) (λ w. refl) (λ f. refl) le
        (λ f w ef lw. call_sim E xs fuel f w (E.named m (procedure tys n) q₂) W room (args_sim w E xs tys q₁) ef lw)
    sim (block i ds ps cs) {Γ} n {ρ} {ρ'} {ls} {ts} {vs} q E W room fuel u le =
        let (Γ', k, q₁, q₂, em) = block_parts Γ i ds ps cs n q in
        let lv = as_long ls ts vs W.typed in
        let inner : List ℕ → Env = λ ys. M.procedures limit (placed ds ys ρ) ps (placed ds ys ρ) in
        let ρ₁ : R.Env = (R.allot ds ρ' vs).0 in
        begins i (λ _. M.◌>>=◌ (take_all limit ds) (λ ys. M.does_all limit (inner ys) cs releasing ys)) fuel u
        (λ f w. R.exec f ρ' (block i ds ps cs) vs w) (back W) (λ w. refl) (λ f. refl) le
        (λ f w ef lw.
        let out : R.Left → Result R.Left Stop = λ s. Ok (drop (length ds) s.0, s.1) in
        bind (take_all limit ds) (λ ys. M.does_all limit (inner ys) cs releasing ys)
        (λ _. Q.◌>>=◌ (R.each (R.exec f (R.procs ρ₁ ps ρ₁)) cs (R.allot ds ρ' vs).1 w) out)
        (taken_sim w k ds ρ' W (omega arith))
        (λ ys _ T.
        let el = T.1 in
        let ep = T.2 in
        let many : length (types ds) ≡ length ys = as_many ds ∙ sym el in
        releases ys out
        (λ a y p. after_release σ ls ys ts (types ds) T.0.fine many y.0 y.1 (give a) (out y) p.0
        (gives a _ _ _ (drop (length ds) y.0, y.1) (ap (λ d. overlay σ ls (drop d y.0)) (sym el)) refl
        (subst (λ d. Typed ls ts (drop d y.0)) el (drop_typed ys ls (types ds) ts y.0 many p.0), up fuel f y.1 ef p.1)))
        (stop_release σ ls ys ts (types ds) T.0.fine many)
        (M.does_all limit (inner ys) cs)
        (sim_coms cs k q₂ (sim_procs ps [] q₁ (block_env ds ys vs el lv (without_env (proc_names ps) E)) (block_env ds ys vs el lv E)) T.0 (omega arith) f w lw)))

    sim_procs : (ps : Procs) {inner : Sight Entry} (seen : List ℕ) {Γ Γ' : Sight Entry} {ρ ρ₀ : Env} {ρ' ρ₀' : R.Env} {ls : List ℕ} {ts : List Scalar}
        → check_procs inner seen ps Γ ≡ Ok Γ' → Related limit σ ls ts inner ρ₀ ρ₀' → Related limit σ ls ts Γ ρ ρ'
        → Related limit σ ls ts Γ' (M.procedures limit ρ₀ ps ρ) (R.procs ρ₀' ps ρ')
    sim_procs pnil seen {ρ} {ρ'} {ls} {ts} q I E = subst (λ Γ. Related limit σ ls ts Γ ρ ρ') (ok_is q) E
    sim_procs (pcons i m fs c ps) {inner} seen {Γ} {Γ'} {ρ} {ρ₀} {ρ'} {ρ₀'} q I E =
        let (n, q₁, q₂) = procs_parts inner seen i m fs c ps Γ Γ' q in
        sim_procs ps (m ∷ seen) q₂ I
        (proc_env m (length fs) n (types fs) (λ ys. M.does limit (placed fs ys ρ₀) c) fs c ρ₀' (sym (as_many fs)) (sym (as_many fs))
        (λ ls' ts' g fine room ks ys matched vs fuel u typed le.
        sim c n q₁ (formals_env fs ks ys matched (grow_env g I)) (record { fine = fine; typed = typed }) room fuel u le)
        E)

    sim_coms : (cs : Coms) {Γ : Sight Entry} (n : ℕ) {ρ : Env} {ρ' : R.Env} {ls : List ℕ} {ts : List Scalar} {vs : List Value}
        → check_coms Γ cs ≡ Ok n → Related limit σ ls ts Γ ρ ρ' → World σ ls ts vs → live σ + length ls + n ≤ limit
        → (fuel u : ℕ) → u ≤ fuel → Runs limit σ ls ts fuel (M.does_all limit ρ cs) vs u (R.each (R.exec fuel ρ') cs vs u)
    sim_coms cnil n {vs} q E W room fuel u le = gives tt _ _ _ (vs, u) refl refl (W.typed, le)
    sim_coms (ccons c cs) {Γ} n {ρ} {ρ'} q E W room fuel u le =
        let (a, b, q₁, q₂, em) = coms_parts Γ c cs n q in
        bind (M.does limit ρ c) (λ _. M.does_all limit ρ cs) (λ s. R.each (R.exec fuel ρ') cs s.0 s.1)
        (sim c a q₁ E W (omega arith) fuel u le)
        (λ _ y p. sim_coms cs b q₂ E (record { fine = W.fine; typed = p.0 }) (omega arith) fuel y.1 p.1)

-- a whole run
abbrev start_values : ℤ → List Value
start_values step = whole_value (pos 0) ∷ whole_value step ∷ []

abbrev reference : Com → ℤ → ℕ → Result R.Left Stop
reference c step a = R.exec a (R.place 1 1 (R.place 0 0 R.empty)) c (start_values step) a

-- the contents of `out`, with the variables and the units left
abbrev with_result : R.Left → Result (ℤ × R.Left) Stop
with_result s = Q.◌>>=◌ (Q.◌>>=◌ (or_else Stuck (value_at s.0 1)) R.as_whole) (λ z. Ok (z, s))

abbrev Last : Type 0
Last = ℤ × ℕ

abbrev last : (ℤ × R.Left) → Result Last Stop
last y = Ok (y.0, y.1.1)

abbrev whole_run : Com → ℤ → ℕ → Result Last Stop
whole_run c step a = Q.◌>>=◌ (Q.◌>>=◌ (reference c step a) with_result) last

empty_env : {limit : ℕ} {σ : Memory} {ls : List ℕ} {ts : List Scalar} → Related limit σ ls ts [] [] R.empty
empty_env = record { named = λ m e q. absurd (no_some e q) }

module _ (limit : ℕ) (σ : Memory) (c : Com) (n : ℕ) (step : ℤ) (a : ℕ) (q : check_com outset c ≡ Ok n) (room : live σ + (n + 2) ≤ limit) where
  abbrev two : List Scalar
  two = wholes ∷ wholes ∷ []

  abbrev Ending : Step ℤ → Memory → ℕ → Result Last Stop → Type 0
  Ending m τ u x = Sim {A = ℤ} {X = Last} limit (Back σ [] []) m τ u (λ _ _. σ) (λ _ y. y.1) (λ w y. (w ≡ y.0) × (y.1 ≤ a)) x

  -- the run between taking the two locations and releasing them
  abbrev Inside : (o i : ℕ) → Step ℤ → Memory → ℕ → Result (ℤ × R.Left) Stop → Type 0
  Inside o i m τ u x =
      Sim {A = ℤ} {X = ℤ × R.Left} limit (Back σ (o ∷ i ∷ []) two) m τ u (λ _ y. overlay σ (o ∷ i ∷ []) y.1.0) (λ _ y. y.1.1)
      (λ w y. (w ≡ y.0) × (Typed (o ∷ i ∷ []) two y.1.0 × (y.1.1 ≤ a))) x

  abbrev result : ℕ → Step ℤ
  result o = M.◌>>=◌ (fetch o) (λ v. answered (R.as_whole v))

  result_sim : (o i u : ℕ) (vs : List Value) → u ≤ a → World σ (o ∷ i ∷ []) two vs → Inside o i (result o) (overlay σ (o ∷ i ∷ []) vs) u (with_result (vs, u))
  result_sim o i u vs le W =
      widened
      (bind_value (fetch o) (λ v. answered (R.as_whole v)) R.as_whole (fetch_sim u 1 o wholes W (inl (refl, refl, refl))) (λ v hv. whole_sim (overlay σ (o ∷ i ∷ []) vs) u v hv))
    where
      go : {x : Result ℤ Stop} {r : Out ℤ} → Agree {A = ℤ} {X = ℤ} (Back σ (o ∷ i ∷ []) two) (λ _ _. overlay σ (o ∷ i ∷ []) vs) (λ _ _. u) (λ a b. a ≡ b) r x
          → Agree {A = ℤ} {X = ℤ × R.Left} (Back σ (o ∷ i ∷ []) two) (λ _ y. overlay σ (o ∷ i ∷ []) y.1.0) (λ _ y. y.1.1)
          (λ w y. (w ≡ y.0) × (Typed (o ∷ i ∷ []) two y.1.0 × (y.1.1 ≤ a))) r (Q.◌>>=◌ x (λ z. Ok (z, (vs, u))))
      go (stops s τ e ex ns b) = stops s τ e (ap (λ x. Q.◌>>=◌ x (λ z. Ok (z, (vs, u)))) ex) ns b
      go (ends z y e ex t) = ends z (y, (vs, u)) e (ap (λ x. Q.◌>>=◌ x (λ z. Ok (z, (vs, u)))) ex) (t, (W.typed, le))

      widened : {x : Result ℤ Stop} {m : Step ℤ} → Yields {A = ℤ} {X = ℤ} limit (Back σ (o ∷ i ∷ []) two) (overlay σ (o ∷ i ∷ []) vs) u (λ a b. a ≡ b) m x
          → Inside o i m (overlay σ (o ∷ i ∷ []) vs) u (Q.◌>>=◌ x (λ z. Ok (z, (vs, u))))
      widened S = record { run = λ r h. go (S.run r h); goes = S.goes }

  abbrev inside : ℕ → ℕ → Step ℤ
  inside i o = M.◌>>=◌ (M.does limit ((1, S.place o) ∷ (0, S.place i) ∷ []) c) (λ _. result o)

  inside_sim : (o i : ℕ) → World σ (o ∷ i ∷ []) two (start_values step)
      → Inside o i (inside i o) (overlay σ (o ∷ i ∷ []) (start_values step)) a (Q.◌>>=◌ (reference c step a) with_result)
  inside_sim o i W =
      bind (M.does limit ((1, S.place o) ∷ (0, S.place i) ∷ []) c) (λ _. result o) with_result
      (sim limit σ c n q (place_env 1 o 1 wholes (inl (refl, refl, refl)) (place_env 0 i 0 wholes (inr (inl (refl, refl, refl))) empty_env)) W (omega arith) a a (omega arith))
      (λ _ y p. result_sim o i y.1 y.0 p.1 (record { fine = W.fine; typed = p.0 }))

  -- both locations released
  ending_sim : (o i : ℕ) → World σ (o ∷ i ∷ []) two (start_values step) → Ending (inside i o releasing (i ∷ o ∷ [])) (overlay σ (o ∷ i ∷ []) (start_values step)) a (whole_run c step a)
  ending_sim o i W =
      releases (i ∷ o ∷ []) last
      (λ z y p. after_release σ [] (i ∷ o ∷ []) [] two W.fine refl y.1.0 y.1.1 (give z) (last y) p.1.0
      (gives z _ _ _ (y.0, y.1.1) refl refl (p.0, p.1.1)))
      (stop_release σ [] (i ∷ o ∷ []) [] two W.fine refl)
      (inside i o) (inside_sim o i W)

  run_sim : Ending (M.runs limit c step) σ a (whole_run c step a)
  run_sim =
      bind (take_one limit (whole_value step)) (λ i. M.◌>>=◌ (take_one limit (whole_value (pos 0))) (λ o. inside i o releasing (i ∷ o ∷ []))) (λ _. whole_run c step a)
      (taken_one {ls = []} {ts = []} {vs = []} a wholes (whole_value step) (record { fine = tt; typed = tt }) refl (omega arith))
      (λ i _ W₁. bind (take_one limit (whole_value (pos 0))) (λ o. inside i o releasing (i ∷ o ∷ [])) (λ _. whole_run c step a)
      (taken_one a wholes (whole_value (pos 0)) W₁ refl (omega arith))
      (λ o _ W₂. ending_sim o i W₂))

answer_is : (c : Com) (step : ℤ) (a : ℕ) → answer c step a ≡ Q.◌>>=◌ (whole_run c step a) (λ y. Ok (graded y.0 (a - y.1)))
answer_is c step a = go (reference c step a)
  where
    inner : (s : R.Left) (z : Result ℤ Stop) → Q.◌>>=◌ z (λ z. Ok (graded z (a - s.1))) ≡ Q.◌>>=◌ (Q.◌>>=◌ (Q.◌>>=◌ z (λ z. Ok (z, s))) last) (λ y. Ok (graded y.0 (a - y.1)))
    inner s (Ok z) = refl
    inner s (Err e) = refl

    go : (x : Result R.Left Stop) → Q.◌>>=◌ x (R.finished a) ≡ Q.◌>>=◌ (Q.◌>>=◌ (Q.◌>>=◌ x with_result) last) (λ y. Ok (graded y.0 (a - y.1)))
    go (Ok s) = inner s (Q.◌>>=◌ (or_else Stuck (value_at s.0 1)) R.as_whole)
    go (Err e) = refl

pub sound_runs : SoundRuns
sound_runs limit σ c need step a q room o h =
    let (n, q₁, e) = bind_ok (check_com outset c) _ need q in
    let f : n + 2 ≡ need = ok_is e in
    go ((run_sim limit σ c n step a q₁ (omega arith)).run o h)
  where
    go : {o : Out ℤ} → Agree {A = ℤ} {X = Last} (Back σ [] []) (λ _ _. σ) (λ _ y. y.1) (λ w y. (w ≡ y.0) × (y.1 ≤ a)) o (whole_run c step a) → AsAnswered c step a σ o
    go (stops s τ e x ns b) =
        subst (AsAnswered c step a σ) (sym e) (ns, answer_is c step a ∙ ap (λ x. Q.◌>>=◌ x (λ y. Ok (graded y.0 (a - y.1)))) x, b.2)
    go (ends z y e x t) =
        subst (AsAnswered c step a σ) (sym e)
        (t.1, answer_is c step a ∙ (ap (λ x. Q.◌>>=◌ x (λ y. Ok (graded y.0 (a - y.1)))) x ∙ ap (λ w. Ok (graded w (a - y.1))) (sym t.0)), refl)

pub runs_exist : RunsExist
runs_exist limit σ c need step a q room top =
    let (n, q₁, e) = bind_ok (check_com outset c) _ need q in
    let f : n + 2 ≡ need = ok_is e in
    (run_sim limit σ c n step a q₁ (omega arith)).goes top

pub never_stuck : NeverStuck
never_stuck c need step a q low h =
    let empty : Memory = λ l. None in
    let z : live empty ≡ 0 = live_none empty refl in
    let room : live empty + need ≤ need = omega arith in
    let (o, r) = runs_exist need empty c need step a q room low in
    go o (sound_runs need empty c need step a q room o r)
  where
    go : (o : Out ℤ) → AsAnswered c step a (λ l. None) o → ⊥
    go (stopped s τ) r = let (ns, e, t) = r in ns (cc (e, h))
    go (ended z τ u) r = let (l, e, t) = r in no_ok Stuck (graded z (a - u)) (sym h ∙ e)

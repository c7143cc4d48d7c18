-- What a call comes to.
use Rattle.std.proofs.Common.{◌≡◌, ℕ, suc, ◌+◌, ◌-◌, ◌<◌, ◌≤◌, true, false, eqb, List, [], ◌∷◌, length, Some, None, Ok, Err, Option, Result, sym, refl, ap, ◌∙◌, subst, inl, inr, arith, eq-eqb, ne_eqb}
use Rattle.language.specs.declared.tables.Node.{Node}
use Rattle.language.specs.declared.tables.Kind.TheVariants.{Call}
use Rattle.language.specs.declared.values.Stop.{Stop}
use Rattle.language.specs.declared.values.Stop.TheVariants.{Stuck}
use Rattle.language.specs.Memory.{Memory}
use Rattle.language.specs.Tree.{Arg, call}
use Rattle.language.specs.Sight.{placed, find}
use Rattle.language.specs.Runs.{Env, ended, stopped, does, locations, invoke}
use Rattle.table.specs.Stretches.{node_at}
use Rattle.table.specs.Walk.{start_at}
use Rattle.run.specs.declared.bindings.Binding.{Binding}
use Rattle.run.specs.declared.bindings.Binding.TheVariants.{Place, Procedure}
use Rattle.run.specs.declared.levels.Frame.{Frame}
use Rattle.run.specs.declared.levels.State.TheVariants.{Run}
use Rattle.run.specs.Names.{Records, Linked, SameBelow, found, sees, as_place, as_procedure, weights, locations_from}
use Rattle.run.specs.Shapes.{kind_at, Shaped, Forest, Trees, args_at, decls_at, arg_at, decl_at}
use Rattle.run.specs.Machine.{outcome, env_at, bound_of, run_frame, Good, GoodFrame, FrameOk, RunOk, Went, Bind, ProceduresOk, args_located}
use Rattle.run.proofs.Sights.{env_same, weights_same}
use Rattle.run.proofs.Opens.{length_row}
use Rattle.run.proofs.Recorded.{variables_env, variables_weigh, variables_ok_more, ok_same_below}
use Rattle.run.proofs.Values.{locations_outcome}
use Rattle.run.proofs.Looks.{looks, sights, finds, as_bound}
use Rattle.run.proofs.Arms.{went_to}

abbrev un_procedure : Result (ℕ × ℕ) Stop → Option Binding
un_procedure (Ok p) = Some (Procedure p.0 p.1)
un_procedure (Err s) = None

pub procedure_found : (o : Option Binding) (j q : ℕ) → ◌≡◌ {A = Result (ℕ × ℕ) Stop} (Ok (j, q)) (as_procedure o) → o ≡ Some (Procedure j q)
procedure_found None j q e = let z : ◌≡◌ {A = ℕ} 0 1 = cc in absurd (omega arith)
procedure_found (Some (Place x)) j q e = let z : ◌≡◌ {A = ℕ} 0 1 = cc in absurd (omega arith)
procedure_found (Some (Procedure x y)) j q e = sym (ap un_procedure e)

sees_stuck : (o : Option Binding) (x : Stop) → as_place o ≡ Err x → x ≡ Stuck
sees_stuck None x e = cc
sees_stuck (Some (Place l)) x e = let z : ◌≡◌ {A = ℕ} 0 1 = cc in absurd (omega arith)
sees_stuck (Some (Procedure i p)) x e = cc

args_stuck : (rs : Records) (p : ℕ) (xs : List Arg) (r : Result (List ℕ) Stop) → args_located (sees rs p) xs ≡ r → (x : Stop) → r ≡ Err x → x ≡ Stuck
args_stuck rs p [] r e x q = let z : ◌≡◌ {A = ℕ} 0 1 = cc in absurd (omega arith)
args_stuck rs p (y ∷ xs) r e x q = go (sees rs p y.name) refl (args_located (sees rs p) xs) refl (args_stuck rs p xs (args_located (sees rs p) xs) refl)
  where
    go : (a : Result ℕ Stop) → sees rs p y.name ≡ a → (b : Result (List ℕ) Stop) → args_located (sees rs p) xs ≡ b → ((x : Stop) → b ≡ Err x → x ≡ Stuck) → x ≡ Stuck
    go (Err z) f b w k = let t : Err z ≡ r = rw f at e in let u : z ≡ x = cc in let v : z ≡ Stuck = sees_stuck (found rs p y.name) z f in cc
    go (Ok l) f (Err z) w k = let t : Err z ≡ r = rw w at (rw f at e) in k x (cc)
    go (Ok l) f (Ok ls) w k = let t : Ok (l ∷ ls) ≡ r = rw w at (rw f at e) in let z : ◌≡◌ {A = ℕ} 0 1 = cc in absurd (omega arith)

-- a call that does not come to a body
module _ (L : ℕ) (ns : List Node) (ls : List ℕ) (rs : Records) (M p : ℕ) (n : M ≤ length rs) (l : Linked rs M) (c : ProceduresOk ns ls rs M) (pm : p ≤ M) (i : ℕ) (lt : i < length ns) (k : kind_at ns i ≡ Some Call) (σ : Memory) (u u' : ℕ) (v : u ≡ suc u') where
  abbrev xs : List Arg
  xs = args_at ns (start_at ls i) (node_at ns i).a

  located_args : (F : Forest) → locations (env_at L ns ls F rs p) xs σ u' (outcome (args_located (sees rs p) xs) σ u')
  located_args F = locations_outcome (env_at L ns ls F rs p) (sees rs p) (sights ns ls rs M n l c L F p pm) xs σ u'

  pub call_no_args : (s : Stop) → args_located (sees rs p) xs ≡ Err s → (F : Forest) → Trees ns ls F → does L (env_at L ns ls F rs p) (F.tree i) σ u (stopped s σ)
  call_no_args s e F t = rw (v, t.calls i lt k) (inr (tt, σ, u', refl, inl (s, σ, rw e at (located_args F), refl)))

  stuck_call : (F : Forest) → Trees ns ls F → ((ks : List ℕ) → invoke (length xs) (find (node_at ns i).name (env_at L ns ls F rs p)) ks σ u' (stopped Stuck σ))
      → (r : Result (List ℕ) Stop) → args_located (sees rs p) xs ≡ r → does L (env_at L ns ls F rs p) (call i (node_at ns i).name xs) σ (suc u') (stopped Stuck σ)
  stuck_call F t h (Ok ks) e = inr (tt, σ, u', refl, inr (ks, σ, u', rw e at (located_args F), h ks))
  stuck_call F t h (Err s) e =
      let z : s ≡ Stuck = args_stuck rs p xs (Err s) e s refl in
      inr (tt, σ, u', refl, inl (Stuck, σ, rw z at (rw e at (located_args F)), refl))

  not_called : (F : Forest) (o : Option Binding) (s : Stop) → Err s ≡ as_procedure o → (s ≡ Stuck) × ((m : ℕ) (ks : List ℕ) → invoke m (as_bound (bound_of L ns ls F (env_at L ns ls F rs)) o) ks σ u' (stopped Stuck σ))
  not_called F None s e = (cc, λ m ks. refl)
  not_called F (Some (Place x)) s e = (cc, λ m ks. refl)
  not_called F (Some (Procedure x y)) s e = let z : ◌≡◌ {A = ℕ} 0 1 = cc in absurd (omega arith)

  pub call_no_procedure : (s : Stop) → Err s ≡ as_procedure (found rs p (node_at ns i).name) → (F : Forest) → Trees ns ls F → does L (env_at L ns ls F rs p) (F.tree i) σ u (stopped s σ)
  call_no_procedure s e F t =
      let m = not_called F (found rs p (node_at ns i).name) s e in
      let d = stuck_call F t (λ ks. rw (looks ns ls rs M n l c L F (node_at ns i).name p pm) (m.1 (length xs) ks)) (args_located (sees rs p) xs) refl in
      rw (v, m.0, t.calls i lt k) d

  pub call_wrong : (j q : ℕ) → found rs p (node_at ns i).name ≡ Some (Procedure j q) → ((node_at ns j).a ≡ (node_at ns i).a → ⊥) → (F : Forest) → Trees ns ls F → does L (env_at L ns ls F rs p) (F.tree i) σ u (stopped Stuck σ)
  call_wrong j q e ne F t =
      let no : eqb (length xs) (length (decls_at ns (start_at ls j) (node_at ns j).a)) ≡ false
      = ne_eqb _ _ (λ x. ne (sym (length_row decl_at ns (start_at ls j) (node_at ns j).a) ∙ sym x ∙ length_row arg_at ns (start_at ls i) (node_at ns i).a)) in
      let d = stuck_call F t (λ ks. rw (looks ns ls rs M n l c L F (node_at ns i).name p pm, e, no) refl) (args_located (sees rs p) xs) refl in
      rw (v, t.calls i lt k) d

-- a call that comes to the body of the procedure
pub call_goes : (L : ℕ) (ns : List Node) (ls : List ℕ) (N : ℕ) (rs rs' : Records) (P P' fs : List Frame) (f : Frame) (σ : Memory) (u u' j q p' : ℕ)
    → f.top ≤ length rs → Shaped ns ls → Good ns ls rs N f.top P → P ≡ f ∷ fs → f.state ≡ Run → kind_at ns f.at ≡ Some Call → u ≡ suc u'
    → length rs' ≡ length rs → SameBelow rs rs' f.top
    → found rs f.position (node_at ns f.at).name ≡ Some (Procedure j q) → (node_at ns j).a ≡ (node_at ns f.at).a
    → Bind ns (start_at ls f.at) (start_at ls j) (node_at ns f.at).a rs f.position f.top q rs' p'
    → P' ≡ run_frame (j - 1) p' (f.top + (node_at ns f.at).a) ∷ fs
    → Went L ns ls N rs P None σ u rs' (f.top + (node_at ns f.at).a) P' None σ u'
call_goes L ns ls N rs rs' P P' fs f σ u u' j q p' fits sh g e qr k v len same fd ca b e' =
    let i : ℕ = f.at in
    let a : ℕ = (node_at ns f.at).a in
    let m : ℕ = f.top in
    let g' : Good ns ls rs N m (f ∷ fs) = rw e at g in
    let lt : i < length ns = g'.0.at in
    let ok : RunOk ns ls rs N (suc (length fs)) f = subst (FrameOk ns ls rs N (suc (length fs)) f) qr g'.0.ok in
    let room : m + ((i - start_at ls i) + weights ls rs f.position) ≤ length rs = ok.records in
    let deep : suc (length fs) + ((i - start_at ls i) + weights ls rs f.position) ≤ N = ok.levels in
    let pm : f.position ≤ m = g'.0.position in
    let y = finds ns ls rs m fits g'.0.linked g'.0.procedures (node_at ns i).name f.position j q pm fd in
    let jn : j < length ns = y.at in
    let qm : q ≤ m = y.seen in
    let yw : (j - start_at ls j) + weights ls rs q ≤ weights ls rs f.position = y.weight in
    let w = sh.of_proc j jn y.kind in
    let one : 1 ≤ j = w.body in
    let fo : start_at ls j + (node_at ns j).a ≤ start_at ls (j - 1) = w.formals in
    let bg : start_at ls (j - 1) ≤ j - 1 = sh.begins (j - 1) (omega arith) in
    let within : p' ≤ m + a = b.within in
    let w₁ : weights ls rs' p' ≡ weights ls rs' q = variables_weigh ns ls (start_at ls j) rs' m q a p' b.linked b.variables in
    let w₀ : weights ls rs' q ≡ weights ls rs q = weights_same ls rs rs' m q same qm in
    let ok₀ : ProceduresOk ns ls rs' m = ok_same_below ns ls rs rs' m m same (omega arith) g'.0.linked g'.0.procedures in
    let ok' : ProceduresOk ns ls rs' (m + a) = variables_ok_more ns ls (start_at ls j) rs' m q a p' b.variables ok₀ in
    let top : GoodFrame ns ls rs' N (suc (length fs)) (m + a) (run_frame (j - 1) p' (m + a)) =
    record { at = omega arith; top = omega arith; position = within; linked = b.linked; procedures = ok'; ok = record { command = w.body_kind; records = omega arith; levels = omega arith } } in
    rw e'
    (went_to L ns ls N m rs rs' P fs f σ σ u u' (m + a) (j - 1) p' (m + a) g e qr len same (omega arith) top
    (λ F t x z.
    let ρ : Env = env_at L ns ls F rs f.position in
    let ks : List ℕ = locations_from rs' m a in
    let ys : List Arg = args_at ns (start_at ls i) a in
    let inner : env_at L ns ls F rs' p' ≡ placed (decls_at ns (start_at ls j) (node_at ns j).a) ks (env_at L ns ls F rs q) =
    variables_env ns ls (start_at ls j) rs' m q L F a p' b.linked b.variables ∙ rw (env_same L ns ls F rs rs' m q same qm, ca) refl in
    let yes : eqb (length ys) (length (decls_at ns (start_at ls j) (node_at ns j).a)) ≡ true
    = eq-eqb _ _ (length_row arg_at ns (start_at ls i) a ∙ sym ca ∙ sym (length_row decl_at ns (start_at ls j) (node_at ns j).a)) in
    let loc : locations ρ ys σ u' (ended ks σ u') = rw b.locates at (locations_outcome ρ (sees rs f.position) (sights ns ls rs m fits g'.0.linked g'.0.procedures L F f.position pm) ys σ u') in
    let lk = looks ns ls rs m fits g'.0.linked g'.0.procedures L F (node_at ns i).name f.position pm in
    let z' : does L (placed (decls_at ns (start_at ls j) (node_at ns j).a) ks (env_at L ns ls F rs q)) (F.tree (j - 1)) σ u' x = rw inner at z in
    let d : does L ρ (call i (node_at ns i).name ys) σ (suc u') x = inr (tt, σ, u', refl, inr (ks, σ, u', loc, rw (lk, fd, yes) z')) in
    rw (v, t.calls i lt k) d))

-- What a test and an assignment come to.
use Rattle.std.proofs.Common.{◌≡◌, ℕ, ◌+◌, ◌-◌, ◌<◌, ◌≤◌, Bool, true, false, cond, List, [], length, Some, None, Ok, Err, Option, Result, refl, inl, inr, arith}
use Rattle.language.specs.declared.tables.Node.{Node}
use Rattle.language.specs.declared.values.Value.{Value}
use Rattle.language.specs.declared.values.Stop.{Stop}
use Rattle.language.specs.declared.values.Stop.TheVariants.{Stuck}
use Rattle.language.specs.Memory.{Memory, put}
use Rattle.language.specs.Values.{sort, alike}
use Rattle.language.specs.Sight.{find}
use Rattle.language.specs.Runs.{ended, stopped, value, store, located}
use Rattle.store.specs.Calls.{write_answer}
use Rattle.store.specs.declared.WriteRefusal.{WriteRefusal}
use Rattle.store.specs.declared.WriteRefusal.TheVariants.{Kind as OtherKind}
use Rattle.table.specs.Walk.{start_at}
use Rattle.run.specs.Names.{Records, Linked, sees}
use Rattle.run.specs.Evaluation.{nodes_done, only}
use Rattle.run.specs.Shapes.{kind_at, ExprKind, Shaped, Trees, Forest}
use Rattle.run.specs.Machine.{outcome, Assigned, ProceduresOk, env_at}
use Rattle.run.proofs.Looks.{sights}
use Rattle.run.proofs.Values.{evaluates}

written_as : (σ : Memory) (l : ℕ) (v : Value) (u : ℕ) (o : Option Value) → σ l ≡ o → Ok tt ≡ write_answer o v → store l v σ u (ended tt (put σ l (Some v)) u)
written_as σ l v u None q e = let z : ◌≡◌ {A = ℕ} 0 1 = cc in absurd (omega arith)
written_as σ l v u (Some w) q e = go (alike (sort w) (sort v)) refl e
  where
    go : (b : Bool) → alike (sort w) (sort v) ≡ b → ◌≡◌ {A = Result (Unit {0}) WriteRefusal} (Ok tt) (cond b (Ok tt) (Err OtherKind)) → store l v σ u (ended tt (put σ l (Some v)) u)
    go true k e = inr (w, σ, u, rw q refl, rw k refl)
    go false k e = let z : ◌≡◌ {A = ℕ} 0 1 = cc in absurd (omega arith)

refused_as : (σ : Memory) (l : ℕ) (v : Value) (u : ℕ) (o : Option Value) (f : WriteRefusal) → σ l ≡ o → Err f ≡ write_answer o v → store l v σ u (stopped Stuck σ)
refused_as σ l v u None f q e = inl (Stuck, σ, rw q refl, refl)
refused_as σ l v u (Some w) f q e = go (alike (sort w) (sort v)) refl e
  where
    go : (b : Bool) → alike (sort w) (sort v) ≡ b → ◌≡◌ {A = Result (Unit {0}) WriteRefusal} (Err f) (cond b (Ok tt) (Err OtherKind)) → store l v σ u (stopped Stuck σ)
    go true k e = let z : ◌≡◌ {A = ℕ} 0 1 = cc in absurd (omega arith)
    go false k e = inr (w, σ, u, rw q refl, rw k refl)

module _ (ns : List Node) (ls : List ℕ) (rs : Records) (M p : ℕ) (n : M ≤ length rs) (l : Linked rs M) (c : ProceduresOk ns ls rs M) (pm : p ≤ M) (σ : Memory) (i m : ℕ) (sh : Shaped ns ls) (lt : i < length ns) (x : ExprKind (kind_at ns i)) where
  comes : (r : Result Value Stop) → r ≡ only (nodes_done ns (sees rs p) σ (start_at ls i) (i + 1 - start_at ls i) []) → (L : ℕ) (F : Forest) → Trees ns ls F → (u : ℕ)
      → value (env_at L ns ls F rs p) (F.expr i) σ u (outcome r σ u)
  comes r e L F t u = evaluates ns ls (env_at L ns ls F rs p) (sees rs p) σ i r sh lt x e (sights ns ls rs M n l c L F p pm) F t u

  sight : (L : ℕ) (F : Forest) (u : ℕ) → located (find m (env_at L ns ls F rs p)) σ u (outcome (sees rs p m) σ u)
  sight L F u = sights ns ls rs M n l c L F p pm m σ u

  pub no_value : (s : Stop) → Err s ≡ only (nodes_done ns (sees rs p) σ (start_at ls i) (i + 1 - start_at ls i) []) → Assigned ns ls rs p σ i m σ (Err s)
  no_value s e L F t u = inl (s, σ, comes (Err s) e L F t u, refl)

  pub no_place : (s : Stop) (v : Value) → Ok v ≡ only (nodes_done ns (sees rs p) σ (start_at ls i) (i + 1 - start_at ls i) []) → Err s ≡ sees rs p m → Assigned ns ls rs p σ i m σ (Err s)
  no_place s v e q L F t u = inr (v, σ, u, comes (Ok v) e L F t u, inl (s, σ, rw (← q) at (sight L F u), refl))

  pub done : (σ' : Memory) (v : Value) (k : ℕ) → Ok v ≡ only (nodes_done ns (sees rs p) σ (start_at ls i) (i + 1 - start_at ls i) []) → Ok k ≡ sees rs p m
      → Ok tt ≡ write_answer (σ k) v → σ' ≡ put σ k (Some v) → Assigned ns ls rs p σ i m σ' (Ok tt)
  done σ' v k e q w s L F t u = rw s (inr (v, σ, u, comes (Ok v) e L F t u, inr (k, σ, u, rw (← q) at (sight L F u), written_as σ k v u (σ k) refl w)))

  pub refused : (σ' : Memory) (v : Value) (k : ℕ) (f : WriteRefusal) → Ok v ≡ only (nodes_done ns (sees rs p) σ (start_at ls i) (i + 1 - start_at ls i) []) → Ok k ≡ sees rs p m
      → Err f ≡ write_answer (σ k) v → σ' ≡ σ → Assigned ns ls rs p σ i m σ' (Err Stuck)
  refused σ' v k f e q w s L F t u = rw s (inr (v, σ, u, comes (Ok v) e L F t u, inr (k, σ, u, rw (← q) at (sight L F u), refused_as σ k v u (σ k) f refl w)))

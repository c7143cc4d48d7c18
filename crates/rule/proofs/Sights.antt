-- Entries of the code beside sights of the definition.
use Rattle.std.proofs.Common.{◌≡◌, ℕ, suc, ◌+◌, ◌≤◌, Bool, true, false, cond, ◌||◌, List, [], ◌∷◌, length, take, drop, Some, None, Option, sym, refl, ap, ◌∙◌}
use Rattle.std.proofs.lemmas.Bool.{eqb-true}
use Rattle.language.specs.declared.tables.Node.{Node}
use Rattle.language.specs.Table.{type_of}
use Rattle.language.specs.Same.{same}
use Rattle.language.specs.Sight.{look, member, without}
use Rattle.language.specs.Tree.{Decl, Com, Procs, pnil, pcons}
use Rattle.language.specs.Names as N
use Rattle.language.specs.Names.{variables, proc_names, types}
use Rattle.rule.specs.declared.entries.Entry.{Entry}
use Rattle.rule.specs.declared.entries.Entry.TheVariants.{Procedure, Hidden}
use Rattle.rule.specs.declared.entries.Routine.{Routine}
use Rattle.rule.specs.Seen.{Names, types_in, seen, Stands, Looks}
use Rattle.rule.specs.Rows.{decls_from, entered}
use Rattle.rule.specs.Said.{Entries, hidden, seen_after}
use Rattle.rule.proofs.Snocs.{psnoc}

module _ (table : List Node) where
  -- a test on a name, on both sides
  seen_cond : (b : Bool) (e : Entry) (x : N.Entry) (o : Option Entry) (p : Option N.Entry) → seen table (Some e) ≡ Some x → seen table o ≡ p
      → seen table (cond b (Some e) o) ≡ cond b (Some x) p
  seen_cond true e x o p h k = h
  seen_cond false e x o p h k = k

  stands_cond : (b : Bool) (e : Entry) (o : Option Entry) → Stands table (Some e) → Stands table o → Stands table (cond b (Some e) o)
  stands_cond true e o h k = h
  stands_cond false e o h k = k

  pub looks_cons : {σ : Entries} {ρ : Names} (m : ℕ) (e : Entry) (x : N.Entry) → seen table (Some e) ≡ Some x → Stands table (Some e)
      → Looks table σ ρ → Looks table ((m, e) ∷ σ) ((m, x) ∷ ρ)
  looks_cons {σ} {ρ} m e x h f k =
      record { says = λ n. seen_cond (same n m) e x (look n σ) (look n ρ) h (k.says n); stands = λ n. stands_cond (same n m) e (look n σ) f (k.stands n) }

  pub looks_entered : (ns : List Node) (o : ℕ) (σ : Entries) (ρ : Names) → Looks table σ ρ → Looks table (entered ns σ) (variables (decls_from o ns) ρ)
  looks_entered [] o σ ρ h = h
  looks_entered (n ∷ ns) o σ ρ h = looks_entered ns (o + 1) _ _ (looks_cons _ _ _ refl tt h)

  -- one procedure more in sight
  pub looks_proc : {σ : Entries} {τ : Names} (m : ℕ) (fs : List Decl) (q : Routine) → types_in (take q.count (drop q.first table)) ≡ types fs → q.first + q.count ≤ length table
      → Looks table σ τ → Looks table ((m, Procedure q) ∷ σ) ((m, N.procedure (types fs) q.need) ∷ τ)
  looks_proc m fs q e le lk = looks_cons m (Procedure q) (N.procedure (types fs) q.need) (ap (λ l. Some (N.procedure l q.need)) e) le lk

  hidden_look : (ms : List ℕ) (σ : Entries) (m : ℕ) → seen table (look m (hidden ms σ)) ≡ cond (member m ms) None (seen table (look m σ))
  hidden_look [] σ m = refl
  hidden_look (n ∷ ms) σ m = go (same m n) (hidden_look ms σ m)
    where
      go : (b : Bool) → seen table (look m (hidden ms σ)) ≡ cond (member m ms) None (seen table (look m σ))
          → seen table (cond b (Some Hidden) (look m (hidden ms σ))) ≡ cond (b || member m ms) None (seen table (look m σ))
      go true h = refl
      go false h = h

  hidden_stands : (ms : List ℕ) (σ : Entries) (m : ℕ) → Stands table (look m σ) → Stands table (look m (hidden ms σ))
  hidden_stands [] σ m h = h
  hidden_stands (n ∷ ms) σ m h = stands_cond (same m n) Hidden (look m (hidden ms σ)) tt (hidden_stands ms σ m h)

  pub without_look : (ms : List ℕ) (ρ : Names) (m : ℕ) → look m (without ms ρ) ≡ cond (member m ms) None (look m ρ)
  without_look ms [] m = go (member m ms)
    where
      go : (b : Bool) → ◌≡◌ {A = Option N.Entry} None (cond b None None)
      go true = refl
      go false = refl
  without_look ms (e ∷ ρ) m = go (member e.0 ms) (same m e.0) refl refl (without_look ms ρ m)
    where
      go : (b d : Bool) → member e.0 ms ≡ b → same m e.0 ≡ d → look m (without ms ρ) ≡ cond (member m ms) None (look m ρ)
          → look m (cond b (without ms ρ) (e ∷ without ms ρ)) ≡ cond (member m ms) None (cond d (Some e.1) (look m ρ))
      go true true p q h =
          let k : member m ms ≡ true = ap (λ x. member x ms) (eqb-true m e.0 q) ∙ p in
          h ∙ rw k refl
      go true false p q h = h
      go false true p q h =
          let k : member m ms ≡ false = ap (λ x. member x ms) (eqb-true m e.0 q) ∙ p in
          rw (q, k) refl
      go false false p q h = rw q h

  pub looks_hidden : (ms : List ℕ) (σ : Entries) (ρ : Names) → Looks table σ ρ → Looks table (hidden ms σ) (without ms ρ)
  looks_hidden ms σ ρ h =
      record { says = λ m. hidden_look ms σ m ∙ ap (cond (member m ms) None) (h.says m) ∙ sym (without_look ms ρ m); stands = λ m. hidden_stands ms σ m (h.stands m) }

pub types_of : (ns : List Node) (o : ℕ) → types (decls_from o ns) ≡ types_in ns
types_of [] o = refl
types_of (n ∷ ns) o = ap (λ l. type_of n.value ∷ l) (types_of ns (o + 1))

pub decls_long : (ns : List Node) (o : ℕ) → length (decls_from o ns) ≡ length ns
decls_long [] o = refl
decls_long (n ∷ ns) o = ap (λ (k : ℕ). suc k) (decls_long ns (o + 1))

pub seen_snoc : (ps : Procs) (i m : ℕ) (fs : List Decl) (c : Com) (xs : List ℕ) → seen_after (psnoc ps i m fs c) xs ≡ m ∷ seen_after ps xs
unfolding psnoc
seen_snoc pnil i m fs c xs = refl
seen_snoc (pcons j n gs d ps) i m fs c xs = seen_snoc ps i m fs c (n ∷ xs)

pub hidden_snoc : (ps : Procs) (i m : ℕ) (fs : List Decl) (c : Com) (σ : Entries) → hidden (proc_names (psnoc ps i m fs c)) σ ≡ hidden (proc_names ps) ((m, Hidden) ∷ σ)
unfolding psnoc
hidden_snoc pnil i m fs c σ = refl
hidden_snoc (pcons j n gs d ps) i m fs c σ = ap (λ l. (n, Hidden) ∷ l) (hidden_snoc ps i m fs c σ)

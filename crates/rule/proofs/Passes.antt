-- What is handed on: each callee gets what it asks for, and what it says is put together.
use Rattle.std.proofs.Common.{◌≡◌, ℕ, ◌+◌, ◌-◌, ◌<◌, ◌≤◌, max, Bool, true, false, List, [], ◌∷◌, length, take, drop, Ok, Err, Result, sym, ap, ◌∙◌, subst, ap₂, arith}
use Rattle.std.specs.Prelude.{IsErrAnd}
use Rattle.std.proofs.lemmas.Result.{err_from_is_err_and}
use Rattle.language.specs.declared.tables.Node.{Node}
use Rattle.language.specs.declared.faults.Fault.{Fault}
use Rattle.language.specs.declared.faults.NamesCause.TheVariants.{Repeated}
use Rattle.language.specs.Tree.{Decl, Com, Procs, Coms, block}
use Rattle.language.specs.Results.{◌>>=◌}
use Rattle.language.specs.Sight.{member}
use Rattle.language.specs.Spelling.{how_many_procs}
use Rattle.language.specs.Names.{procedure, refusal, types, variables, check_decls, check_com, check_coms, check_procs}
use Rattle.rule.specs.declared.checker.Checker.{Checker}
use Rattle.rule.specs.declared.entries.Entry.TheVariants.{Procedure}
use Rattle.rule.specs.declared.entries.Routine.{Routine}
use Rattle.rule.specs.declared.parts.Part.{Part}
use Rattle.rule.specs.Pieces.{long, last_node, placed, Inside, Lies, IsCom, IsComs, IsProcs}
use Rattle.rule.specs.Rows.{decls_from, entered}
use Rattle.rule.specs.Shapes.{Blocks}
use Rattle.rule.specs.Seen.{Names, types_in, Sees, SeesFrom, sight, sight_from, room, Grown, Kept, Turned}
use Rattle.rule.specs.Said.{Entries, KeptIf, Sighted, SomeCom, SomeComs, SomeBlock, SomeProc, SomeProcs, ComSays, ComsSays, ProcSays, ProcsSays, ProcsSaid, RoutineIs, body_said, seen_after}
use Rattle.rule.proofs.Bounds.{bounded_vars}
use Rattle.rule.proofs.Grows.{kept_same, kept_sight, kept_sees, looks_as, grown_sees, grown_none, grown_kept, grown_then, grown_as, grown_turned, turned_sees}
use Rattle.rule.proofs.Laws.{largest, one_proc, one_bad, one_twice, one_well}
use Rattle.rule.proofs.Sights.{looks_entered, looks_proc}
use Rattle.rule.proofs.Splits.{inside_long, lies_inside, ComsParts, ProcsParts, ProcParts, procs_none}

-- where nothing was entered, all is kept
pub kept_any : {X : Type 0} (r : Result X Fault) (a : Checker) → KeptIf r a a
kept_any (Ok x) a = kept_same a
kept_any (Err f) a = tt

-- what a `?` hands on
pub carried : {X : Type 0} {r : Result X Fault} {f : Fault} → IsErrAnd r (λ g. g ≡ f) → r ≡ Err f
carried {X} {r} h = let b = err_from_is_err_and r h in b.1 ∙ ap Err b.2

-- a part of the same table
pub lies_on : {s t : List Node} {q : Part} → t ≡ s → Lies s q → Lies t q
lies_on {s} {t} {q} e l = subst (λ (x : List Node). Lies x q) (sym e) l

-- ---- a command inside
module _ {p : Part} {a b : Checker} (seen : Sighted a.table.now (sight a) (long p)) (roomy : a.scope.top + long p ≤ room a) (lies : Lies a.table.now p) (kept : Kept a b) where
  sighted_on : (w : ℕ) → w ≤ long p → Sighted b.table.now (sight b) w
  sighted_on w le = record { ρ = seen.ρ; B = seen.B; looks = kept_sees seen.ρ kept seen.looks; bounded = seen.bounded; fits = omega (arith, seen.fits) }

  pub pass_com : {q : Part} {x : Com} → IsCom q x → Inside p q → SomeCom b q
  pass_com {q} {x} is i =
      record {
        c = x;
        is = is;
        lies = lies_on kept.table (lies_inside lies i);
        seen = sighted_on (long q) (inside_long i);
        roomy = omega (arith, inside_long i, kept.top, kept.long);
      }

  pub pass_coms : {q : Part} {xs : Coms} → IsComs q xs → Inside p q → SomeComs b q
  pass_coms {q} {xs} is i =
      record {
        cs = xs;
        is = is;
        lies = lies_on kept.table (lies_inside lies i);
        seen = sighted_on (long q) (inside_long i);
        roomy = omega (arith, inside_long i, kept.top, kept.long);
      }

pub pass_block : {p v q r : Part} {a : Checker} {c : Com} → SomeCom a p → Blocks p v q r c → SomeBlock a v q r
pass_block {p} {v} {q} {r} {a} {c} s w =
    record {
      ps = w.ps;
      cs = w.cs;
      procedures = w.procedures;
      commands = w.commands;
      procedures_lie = lies_inside s.lies w.procedures_in;
      commands_lie = lies_inside s.lies w.commands_in;
      seen = record { ρ = s.seen.ρ; B = s.seen.B; looks = s.seen.looks; bounded = s.seen.bounded; fits = omega (arith, s.seen.fits, w.sizes) };
      roomy = omega (arith, s.roomy, w.sizes);
    }

pub block_is : {p v q r : Part} {c : Com} (w : Blocks p v q r c) (ρ : Names) (o : Result ℕ Fault)
    → o ≡ check_com ρ (block (placed p) (decls_from v.first v.nodes.now) w.ps w.cs) → o ≡ check_com ρ c
block_is w ρ o h = h ∙ ap (check_com ρ) (sym w.is)

-- ---- commands in a row
module _ {p l r : Part} {cs : Coms} (w : ComsParts p l r cs) (a : Checker) (ρ : Names) (lk : Sees a ρ) where
  pub coms_front_bad : (f : Fault) → ComsSays a l (Err f) → Err f ≡ check_coms ρ cs
  coms_front_bad f h = sym (w.says ρ ∙ ap (λ m. largest m (check_com ρ w.c)) (sym (h w.init ρ w.front lk)))

  pub coms_last_bad : (n : ℕ) (f : Fault) (b : Checker) → ComsSays a l (Ok n) → Sees b ρ → ComSays b r (Err f) → Err f ≡ check_coms ρ cs
  coms_last_bad n f b h lm k = sym (w.says ρ ∙ ap₂ largest (sym (h w.init ρ w.front lk)) (sym (k w.c ρ w.back lm)))

  pub coms_well : (n m z : ℕ) (b : Checker) → ComsSays a l (Ok n) → Sees b ρ → ComSays b r (Ok m) → z ≡ max n m → Ok z ≡ check_coms ρ cs
  coms_well n m z b h lm k e = ap Ok e ∙ sym (w.says ρ ∙ ap₂ largest (sym (h w.init ρ w.front lk)) (sym (k w.c ρ w.back lm)))

-- ---- one procedure
pub routine_err : (table : List Node) (r : Result Routine Fault) (f : Fault) (fs : List Decl) (o : Result ℕ Fault) → r ≡ Err f → o ≡ Err f → RoutineIs table r fs o
routine_err table r f fs o e h = rw e h

module _ {p f b : Part} {fs : List Decl} {c : Com} (w : ProcParts p f b fs c) where
  pub body_sees : (a x y : Checker) (inner : ℕ) (ρ : Names) → Turned a x inner → sight y ≡ entered f.nodes.now (sight x) → Grown x y (long f)
      → SeesFrom a inner ρ → Sees y (variables fs ρ)
  body_sees a x y inner ρ t v g lk =
      subst (λ (ds : List Decl). Sees y (variables ds ρ)) w.formals
      (looks_as g.table v (looks_entered x.table.now f.nodes.now f.first (sight x) ρ (turned_sees ρ t lk)))

  pub pass_body : {a x y : Checker} {inner : ℕ} → Sighted a.table.now (sight_from a inner) (long p) → Lies a.table.now p → a.scope.top + (long p - 1) ≤ room a
      → Turned a x inner → sight y ≡ entered f.nodes.now (sight x) → Grown x y (long f) → SomeCom y b
  pass_body {a} {x} {y} {inner} s lies roomy t v g =
      let k = grown_turned t in
      record {
        c = c;
        is = w.body;
        lies = lies_on (g.table ∙ t.table) (lies_inside lies w.body_in);
        seen = record {
          ρ = variables fs s.ρ;
          B = s.B;
          looks = body_sees a x y inner s.ρ t v g s.looks;
          bounded = bounded_vars s.B fs s.ρ s.bounded;
          fits = omega (arith, s.fits, w.sizes);
        };
        roomy = omega (arith, roomy, w.sizes, k.top, k.long, g.top, g.long);
      }

  module _ (ρ : Names) where
    names_ok : (o : Result (Unit {0}) Fault) → o ≡ check_decls [] (decls_from f.first f.nodes.now) → check_decls [] fs ≡ o
    names_ok o h = sym (h ∙ ap (check_decls []) w.formals)

    pub proc_names_bad : (g : Fault) → Err g ≡ check_decls [] (decls_from f.first f.nodes.now) → body_said ρ fs c ≡ Err g
    proc_names_bad g h = ap (λ r. r >>= λ _. check_com (variables fs ρ) c) (names_ok (Err g) h)

    pub proc_body : (o : Result ℕ Fault) (y : Checker) → Ok tt ≡ check_decls [] (decls_from f.first f.nodes.now) → Sees y (variables fs ρ) → ComSays y b o → body_said ρ fs c ≡ o
    proc_body o y h lk k = ap (λ r. r >>= λ _. check_com (variables fs ρ) c) (names_ok (Ok tt) h) ∙ sym (k c (variables fs ρ) w.body lk)

-- ---- procedures in a row
pub procs_err : (k : Checker) (r : Result (Unit {0}) Fault) (f : Fault) (o : Result Names Fault) → r ≡ Err f → o ≡ Err f → ProcsSaid k r o
procs_err k r f o e h = rw e h

module _ {p l r : Part} {ps : Procs} (w : ProcsParts p l r ps) where
  pub pass_front : {a : Checker} {inner : ℕ} → Sighted a.table.now (sight_from a inner) (long p) → Lies a.table.now p → inner ≤ a.scope.top
      → a.scope.top + long p ≤ room a + how_many_procs ps → SomeProcs a l inner
  pass_front {a} {inner} s lies low roomy =
      record {
        ps = w.init;
        is = w.front;
        lies = lies_inside lies w.front_in;
        low = low;
        seen = record { ρ = s.ρ; B = s.B; looks = s.looks; bounded = s.bounded; fits = omega (arith, s.fits, w.sizes) };
        roomy = omega (arith, roomy, w.sizes, w.some, w.many);
      }

  pub pass_last : {a b : Checker} {inner : ℕ} → Sighted a.table.now (sight_from a inner) (long p) → Lies a.table.now p → inner ≤ a.scope.top
      → a.scope.top + long p ≤ room a + how_many_procs ps → Grown a b (how_many_procs w.init) → SomeProc b r inner
  pass_last {a} {b} {inner} s lies low roomy g =
      record {
        i = w.i;
        m = w.m;
        fs = w.fs;
        c = w.c;
        is = w.back;
        lies = lies_on g.table (lies_inside lies w.back_in);
        low = omega (arith, g.top);
        seen = record { ρ = s.ρ; B = s.B; looks = grown_sees inner s.ρ g low s.looks; bounded = s.bounded; fits = omega (arith, s.fits, w.sizes) };
        roomy = omega (arith, roomy, w.sizes, w.some, w.many, w.twice, g.top, g.long);
      }

  pub room_more : {a b c : Checker} → a.scope.top + long p ≤ room a + how_many_procs ps → Grown a b (how_many_procs w.init) → Kept b c → c.scope.top < room c
  room_more roomy g k = omega (arith, roomy, w.sizes, w.some, w.many, w.twice, g.top, g.long, k.top, k.long)

  pub more_grown : {a b c d : Checker} → Grown a b (how_many_procs w.init) → Kept b c → Grown c d 1 → Grown a d (how_many_procs ps)
  more_grown g k n = grown_as (sym w.many) (grown_then (grown_kept g k) n)

  module _ (a b : Checker) (inner : ℕ) (ρ τ : Names) (lk : SeesFrom a inner ρ) (ll : Sees a τ) where
    pub procs_front_bad : (f : Fault) → ProcsSays a l inner (Err f) b → check_procs ρ [] ps τ ≡ Err f
    procs_front_bad f h = w.says ρ τ ∙ ap (λ o. o >>= one_proc ρ (seen_after w.init []) w.i w.m w.fs w.c) (h w.init ρ τ w.front lk ll)

    -- the earlier ones went well, and this one sees the same
    module _ (done : ProcsSays a l inner (Ok tt) b) (low : inner ≤ a.scope.top) (grown : Grown a b (how_many_procs w.init)) where
      earlier : (υ : Names) × (check_procs ρ [] w.init τ ≡ Ok υ) × Sees b υ
      earlier = done w.init ρ τ w.front lk ll

      joined : check_procs ρ [] ps τ ≡ one_proc ρ (seen_after w.init []) w.i w.m w.fs w.c earlier.0
      joined = w.says ρ τ ∙ ap (λ o. o >>= one_proc ρ (seen_after w.init []) w.i w.m w.fs w.c) earlier.1

      pub made_bad : (f : Fault) → ProcSays b r inner (Err f) → check_procs ρ [] ps τ ≡ Err f
      made_bad f h = joined ∙ one_bad ρ (seen_after w.init []) w.i w.m w.fs w.c earlier.0 f (h w.i w.m w.fs w.c ρ w.back (grown_sees inner ρ grown low lk))

      module _ (q : Routine) (n : Node) (t : Bool) (made : ProcSays b r inner (Ok q)) (node : n ≡ last_node r)
          (found : (qs : Procs) → IsProcs l qs → t ≡ member n.name (seen_after qs [])) where
        made_is : (body_said ρ w.fs w.c ≡ Ok q.need) × (types_in (take q.count (drop q.first b.table.now)) ≡ types w.fs) × (q.first + q.count ≤ length b.table.now)
        made_is = made w.i w.m w.fs w.c ρ w.back (grown_sees inner ρ grown low lk)

        name_is : n.name ≡ w.m
        name_is = ap (λ (n : Node). n.name) node ∙ w.name

        found_is : (d : Bool) → t ≡ d → member w.m (seen_after w.init []) ≡ d
        found_is d e = ap (λ (x : ℕ). member x (seen_after w.init [])) (sym name_is) ∙ sym (found w.init w.front) ∙ e

        pub made_twice : (f : Fault) (i : ℕ) → f ≡ refusal Repeated i → i ≡ placed r → t ≡ true → Err f ≡ check_procs ρ [] ps τ
        made_twice f i e k p =
            sym (joined ∙ one_twice ρ (seen_after w.init []) w.i w.m w.fs w.c earlier.0 q.need made_is.0 (found_is true p)
            ∙ ap (λ (i : ℕ). Err (refusal Repeated i)) (w.place ∙ sym k) ∙ ap Err (sym e))

        pub made_well : {c d : Checker} → Kept b c → Grown c d 1 → sight d ≡ (n.name, Procedure q) ∷ sight c → t ≡ false → (φ : Names) × (check_procs ρ [] ps τ ≡ Ok φ) × Sees d φ
        made_well {c} {d} k g e f = (
          (w.m, procedure (types w.fs) q.need) ∷ earlier.0,
          joined ∙ one_well ρ (seen_after w.init []) w.i w.m w.fs w.c earlier.0 q.need made_is.0 (found_is false f),
          looks_as (g.table ∙ k.table) (e ∙ ap₂ (λ (x : ℕ) (σ : Entries). (x, Procedure q) ∷ σ) name_is (kept_sight k b.scope.low)) (looks_proc b.table.now w.m w.fs q made_is.1 made_is.2 earlier.2),
        )

pub no_procs_said : {p : Part} (ps : Procs) (ρ τ : Names) (k : Checker) → long p ≡ 0 → IsProcs p ps → Sees k τ → (υ : Names) × (check_procs ρ [] ps τ ≡ Ok υ) × Sees k υ
no_procs_said ps ρ τ k e is lk = (τ, ap (λ ps. check_procs ρ [] ps τ) (procs_none ps e is), lk)

pub no_procs_grown : {p : Part} (ps : Procs) (k : Checker) → long p ≡ 0 → IsProcs p ps → Grown k k (how_many_procs ps)
no_procs_grown ps k e is = grown_as (sym (ap how_many_procs (procs_none ps e is))) (grown_none k)

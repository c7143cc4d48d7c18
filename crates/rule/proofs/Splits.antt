-- Parts that are rows or procedures, taken apart.
use Rattle.std.proofs.Common.{◌≡◌, ℕ, ◌+◌, ◌-◌, ◌*◌, ◌<◌, ◌≤◌, ◌||◌, List, [], ◌∷◌, length, take, drop, Ok, sym, ap, ◌∙◌, subst, ap₂, arith}
use Rattle.std.proofs.lemmas.List.{drop-take, take-take, drop-drop}
use Rattle.language.specs.declared.tables.Node.{Node}
use Rattle.language.specs.Same.{same}
use Rattle.language.specs.Tree.{Decl, Com, Procs, Coms, pnil, pcons}
use Rattle.language.specs.Results.{◌>>=◌}
use Rattle.language.specs.Sight.{member}
use Rattle.language.specs.Spelling.{how_many_procs, size, size_procs, size_coms}
use Rattle.language.specs.Names.{types, proc_names, check_com, check_coms, check_procs}
use Rattle.table.specs.Stretches.{node_at, ComAt, ProcAt}
use Rattle.rule.specs.declared.entries.Entry.TheVariants.{Hidden}
use Rattle.rule.specs.declared.parts.Part.{Part}
use Rattle.rule.specs.Pieces.{long, last_node, placed, begins, Ended, Lasts, ProcEnds, ProcCuts, Inside, Lies, IsCom, IsComs, IsProc, IsProcs}
use Rattle.rule.specs.Rows.{decls_from}
use Rattle.rule.specs.Seen.{Names, types_in}
use Rattle.rule.specs.Said.{Entries, hidden, seen_after}
use Rattle.rule.proofs.Cuts.{com_some, is_com, is_coms, is_procs, is_proc, cut_long}
use Rattle.rule.proofs.ExprShapes.{ends_last, ends_place}
use Rattle.rule.proofs.ComShapes.{is_decls, inside}
use Rattle.rule.proofs.Snocs.{back_coms, back_procs, com_ended, proc_ended, no_procs, no_coms, some_procs, some_coms}
use Rattle.rule.proofs.Sights.{types_of, seen_snoc, hidden_snoc}
use Rattle.rule.proofs.Laws.{largest, coms_snoc, one_proc, procs_snoc}

pub inside_long : {p q : Part} → Inside p q → long q ≤ long p
inside_long i = omega (arith, cut_long i.cut i.order i.within, i.within)

-- a part of a part of the table is a part of the table
pub lies_inside : {table : List Node} {p q : Part} → Lies table p → Inside p q → Lies table q
lies_inside {table} {p} {q} l i =
    let n : long q ≡ i.e - i.s = cut_long i.cut i.order i.within in
    let w : long p ≡ i.s + (long p - i.s) = omega (arith, i.order, i.within) in
    let cut : drop i.s p.nodes.now ≡ take (long p - i.s) (drop (p.first + i.s) table) =
    ap (drop i.s) (l.nodes ∙ ap (λ (k : ℕ). take k (drop p.first table)) w)
    ∙ drop-take i.s (long p - i.s) (drop p.first table) ∙ ap (take (long p - i.s)) (drop-drop i.s p.first table) in
    record {
      nodes = i.cut.nodes ∙ ap (take (i.e - i.s)) cut ∙ take-take (i.e - i.s) (long p - i.s) (drop (p.first + i.s) table) (omega (arith, i.within))
          ∙ ap₂ (λ (k m : ℕ). take k (drop m table)) (sym n) (sym i.cut.first);
      within = omega (arith, l.within, i.cut.first, i.order, i.within);
    }

-- ---- commands in a row
pub record ComsParts (p l r : Part) (cs : Coms) : Type 0 where
  pub init : Coms
  pub c : Com
  pub front : IsComs l init
  pub back : IsCom r c
  pub front_in : Inside p l
  pub back_in : Inside p r
  pub sizes : long p ≡ long l + long r
  pub some : 1 ≤ long r
  pub says : (ρ : Names) → check_coms ρ cs ≡ largest (check_coms ρ init) (check_com ρ c)

pub record ComsSplit (p : Part) (cs : Coms) : Type 0 where
  pub ended : Ended p (long p)
  pub parts : (l r : Part) → Lasts p l r → ComsParts p l r cs

pub coms_split : (p : Part) (cs : Coms) → 0 < long p → IsComs p cs → ComsSplit p cs
coms_split p cs lt is =
    let u = back_coms p.nodes.now p.lens.now p.first cs 0 is.at (some_coms cs (omega (arith, is.whole))) in
    let z : long p ≡ 0 + size_coms u.init + size u.c = omega (arith, is.whole, u.sizes) in
    let b = com_ended p u.c (0 + size_coms u.init) (long p) z (omega arith) u.back in
    let back : ComAt p.nodes.now p.lens.now p.first (begins p (long p)) u.c =
    subst (λ (s : ℕ). ComAt p.nodes.now p.lens.now p.first s u.c) (sym b.1) u.back in
    record {
      ended = b.0;
      parts = λ l r h.
          let il = is_coms u.init h.left b.1 (omega (arith, b.1, z)) u.front in
          let ir = is_com u.c h.right (omega (arith, b.1, z)) (omega arith) back in
          record {
            init = u.init;
            c = u.c;
            front = il;
            back = ir;
            front_in = inside (omega arith) (omega (arith, b.1, z)) h.left;
            back_in = inside (omega (arith, b.1, z)) (omega arith) h.right;
            sizes = omega (arith, z, il.whole, ir.whole);
            some = omega (arith, ir.whole, com_some u.c);
            says = λ ρ. ap (check_coms ρ) u.is ∙ coms_snoc ρ u.init u.c;
          };
    }

pub coms_ended : {p : Part} (cs : Coms) → IsComs p cs → 1 ≤ long p → Ended p (long p)
coms_ended {p} cs is le = (coms_split p cs (omega arith) is).ended

pub coms_parts : {p l r : Part} (cs : Coms) → IsComs p cs → Lasts p l r → ComsParts p l r cs
coms_parts {p} {l} {r} cs is h = (coms_split p cs (omega (arith, h.some)) is).parts l r h

pub coms_none : {p : Part} (cs : Coms) (ρ : Names) → long p ≡ 0 → IsComs p cs → Ok 0 ≡ check_coms ρ cs
coms_none cs ρ e is = sym (ap (check_coms ρ) (no_coms cs (sym is.whole ∙ e)))

-- ---- procedures in a row
pub record ProcsParts (p l r : Part) (ps : Procs) : Type 0 where
  pub init : Procs
  pub i : ℕ
  pub m : ℕ
  pub fs : List Decl
  pub c : Com
  pub front : IsProcs l init
  pub back : IsProc r i m fs c
  pub front_in : Inside p l
  pub back_in : Inside p r
  pub sizes : long p ≡ long l + long r
  pub some : 2 ≤ long r
  pub many : how_many_procs ps ≡ how_many_procs init + 1
  pub twice : 2 * how_many_procs init ≤ long l
  pub name : (last_node r).name ≡ m
  pub place : i ≡ placed r
  pub says : (ρ τ : Names) → check_procs ρ [] ps τ ≡ (check_procs ρ [] init τ >>= one_proc ρ (seen_after init []) i m fs c)
  pub hides : (σ : Entries) → hidden (proc_names ps) σ ≡ hidden (proc_names init) ((m, Hidden) ∷ σ)
  pub names : (x : ℕ) → member x (seen_after ps []) ≡ (same x m || member x (seen_after init []))

pub record ProcsSplit (p : Part) (ps : Procs) : Type 0 where
  pub ended : Ended p (long p)
  pub parts : (l r : Part) → Lasts p l r → ProcsParts p l r ps

pub two_each : (ps : Procs) → 2 * how_many_procs ps ≤ size_procs ps
two_each pnil = omega arith
two_each (pcons i m fs c ps) = omega (arith, two_each ps, com_some c)

pub procs_split : (p : Part) (ps : Procs) → 0 < long p → IsProcs p ps → ProcsSplit p ps
procs_split p ps lt is =
    let u = back_procs p.nodes.now p.lens.now p.first ps 0 is.at (some_procs ps (omega (arith, is.whole))) in
    let z : long p ≡ 0 + size_procs u.init + (length u.fs + size u.c + 1) = omega (arith, is.whole, u.sizes) in
    let b = proc_ended p u.i u.m u.fs u.c (0 + size_procs u.init) (long p) z (omega arith) u.back in
    let back : ProcAt p.nodes.now p.lens.now p.first (begins p (long p)) u.i u.m u.fs u.c =
    subst (λ (s : ℕ). ProcAt p.nodes.now p.lens.now p.first s u.i u.m u.fs u.c) (sym b.1) u.back in
    record {
      ended = b.0;
      parts = λ l r h.
          let il = is_procs u.init h.left b.1 (omega (arith, b.1, z)) u.front in
          let ir = is_proc u.i u.m u.fs u.c h.right (omega (arith, b.1, z)) (omega arith) back in
          record {
            init = u.init;
            i = u.i;
            m = u.m;
            fs = u.fs;
            c = u.c;
            front = il;
            back = ir;
            front_in = inside (omega arith) (omega (arith, b.1, z)) h.left;
            back_in = inside (omega (arith, b.1, z)) (omega arith) h.right;
            sizes = omega (arith, z, il.whole, ir.whole);
            some = omega (arith, ir.whole, com_some u.c);
            many = u.many;
            twice = omega (arith, il.whole, two_each u.init);
            name = ap (λ (i : ℕ). (node_at r.nodes.now i).name) (sym (ends_last r ir.whole ir.at.0.end)) ∙ ir.at.0.name;
            place = ends_place r ir.whole ir.at.0.end;
            says = λ ρ τ. ap (λ ps. check_procs ρ [] ps τ) u.is ∙ procs_snoc ρ [] u.init u.i u.m u.fs u.c τ;
            hides = λ σ. ap (λ ps. hidden (proc_names ps) σ) u.is ∙ hidden_snoc u.init u.i u.m u.fs u.c σ;
            names = λ x. ap (λ ps. member x (seen_after ps [])) u.is ∙ ap (member x) (seen_snoc u.init u.i u.m u.fs u.c []);
          };
    }

pub procs_ended : {p : Part} (ps : Procs) → IsProcs p ps → 1 ≤ long p → Ended p (long p)
procs_ended {p} ps is le = (procs_split p ps (omega arith) is).ended

pub procs_parts : {p l r : Part} (ps : Procs) → IsProcs p ps → Lasts p l r → ProcsParts p l r ps
procs_parts {p} {l} {r} ps is h = (procs_split p ps (omega (arith, h.some)) is).parts l r h

pub procs_none : {p : Part} (ps : Procs) → long p ≡ 0 → IsProcs p ps → ps ≡ pnil
procs_none ps e is = no_procs ps (sym is.whole ∙ e)

-- ---- one procedure
pub record ProcParts (p f b : Part) (fs : List Decl) (c : Com) : Type 0 where
  pub formals : decls_from f.first f.nodes.now ≡ fs
  pub formals_in : Inside p f
  pub body : IsCom b c
  pub body_in : Inside p b
  pub sizes : long p ≡ long f + long b + 1

pub proc_long : (p : Part) (i m : ℕ) (fs : List Decl) (c : Com) → IsProc p i m fs c → (last_node p).a ≡ length fs
proc_long p i m fs c is = ap (λ (i : ℕ). (node_at p.nodes.now i).a) (sym (ends_last p is.whole is.at.0.end)) ∙ is.at.1

pub proc_ends : (p : Part) (i m : ℕ) (fs : List Decl) (c : Com) → IsProc p i m fs c → ProcEnds p
proc_ends p i m fs c is = record { some = omega (arith, is.whole); order = omega (arith, is.whole, proc_long p i m fs c is) }

pub proc_parts : (p f b : Part) (i m : ℕ) (fs : List Decl) (c : Com) → IsProc p i m fs c → ProcCuts p f b → ProcParts p f b fs c
proc_parts p f b i m fs c is h =
    let n : (last_node p).a ≡ length fs = proc_long p i m fs c is in
    let z : long p ≡ length fs + size c + 1 = is.whole in
    let body : ComAt p.nodes.now p.lens.now p.first (last_node p).a c =
    subst (λ (s : ℕ). ComAt p.nodes.now p.lens.now p.first s c) (omega arith) is.at.3 in
    let ib = is_com c h.body (omega arith) (omega arith) body in
    record {
      formals = is_decls fs h.formals (omega arith) (omega arith) is.at.2;
      formals_in = inside (omega arith) (omega arith) h.formals;
      body = ib;
      body_in = inside (omega arith) (omega arith) h.body;
      sizes = omega (arith, cut_long h.formals (omega arith) (omega arith), ib.whole);
    }

-- the types of its formals stand in the table
pub proc_types : {table : List Node} {p f b : Part} {fs : List Decl} {c : Com} → ProcParts p f b fs c → Lies table p
    → (types_in (take (long f) (drop f.first table)) ≡ types fs) × (f.first + long f ≤ length table)
proc_types {table} {p} {f} w l =
    let k = lies_inside l w.formals_in in
    (ap types_in (sym k.nodes) ∙ sym (types_of f.nodes.now f.first) ∙ ap types w.formals, k.within)

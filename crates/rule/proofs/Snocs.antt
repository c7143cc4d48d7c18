-- Rows of procedures and of commands, seen from their end.
use Rattle.std.proofs.Common.{◌≡◌, ℕ, zero, suc, ◌+◌, ◌-◌, ◌<◌, ◌≤◌, List, length, refl, ap, subst, arith}
use Rattle.language.specs.declared.tables.Node.{Node}
use Rattle.language.specs.Tree.{Decl, Com, Procs, Coms, null, assign, if, while, call, block, pnil, pcons, cnil, ccons}
use Rattle.language.specs.Spelling.{how_many_procs, how_many_coms, size, size_procs, size_coms}
use Rattle.table.specs.Stretches.{ComAt, ProcAt, ProcsAt, ComsAt}
use Rattle.rule.specs.declared.parts.Part.{Part}
use Rattle.rule.specs.Pieces.{long, Ended, begins, RowEnds, skipped}
use Rattle.rule.proofs.Cuts.{com_some}
use Rattle.rule.proofs.ExprShapes.{ended_at}

unfoldable pub psnoc : Procs → ℕ → ℕ → List Decl → Com → Procs
psnoc pnil i m fs c = pcons i m fs c pnil
psnoc (pcons j n gs d ps) i m fs c = pcons j n gs d (psnoc ps i m fs c)

unfoldable pub csnoc : Coms → Com → Coms
csnoc cnil c = ccons c cnil
csnoc (ccons d cs) c = ccons d (csnoc cs c)

module _ (ns : List Node) (ls : List ℕ) (o : ℕ) where
  pub record BackProcs (s : ℕ) (ps : Procs) : Type 0 where
    pub init : Procs
    pub i : ℕ
    pub m : ℕ
    pub fs : List Decl
    pub c : Com
    pub is : ps ≡ psnoc init i m fs c
    pub front : ProcsAt ns ls o s init
    pub back : ProcAt ns ls o (s + size_procs init) i m fs c
    pub sizes : size_procs ps ≡ size_procs init + (length fs + size c + 1)
    pub many : how_many_procs ps ≡ how_many_procs init + 1

  pub back_procs : (ps : Procs) (s : ℕ) → ProcsAt ns ls o s ps → 1 ≤ how_many_procs ps → BackProcs s ps
  unfolding psnoc
  back_procs pnil s h le = absurd (omega arith)
  back_procs (pcons i m fs c pnil) s h le =
      let z : s ≡ s + 0 = omega arith in
      record {
        init = pnil;
        i = i;
        m = m;
        fs = fs;
        c = c;
        is = refl;
        front = tt;
        back = subst (λ (x : ℕ). ProcAt ns ls o x i m fs c) z h.0;
        sizes = omega arith;
        many = omega arith;
      }
  back_procs (pcons i m fs c (pcons j n gs d ps)) s h le =
      let u = back_procs (pcons j n gs d ps) (s + (length fs + size c + 1)) h.1 (omega arith) in
      let z : s + (length fs + size c + 1) + size_procs u.init ≡ s + (length fs + size c + 1 + size_procs u.init) = omega arith in
      record {
        init = pcons i m fs c u.init;
        i = u.i;
        m = u.m;
        fs = u.fs;
        c = u.c;
        is = ap (pcons i m fs c) u.is;
        front = (h.0, u.front);
        back = subst (λ (x : ℕ). ProcAt ns ls o x u.i u.m u.fs u.c) z u.back;
        sizes = omega (arith, u.sizes);
        many = omega (arith, u.many);
      }

  pub record BackComs (s : ℕ) (cs : Coms) : Type 0 where
    pub init : Coms
    pub c : Com
    pub is : cs ≡ csnoc init c
    pub front : ComsAt ns ls o s init
    pub back : ComAt ns ls o (s + size_coms init) c
    pub sizes : size_coms cs ≡ size_coms init + size c
    pub many : how_many_coms cs ≡ how_many_coms init + 1

  pub back_coms : (cs : Coms) (s : ℕ) → ComsAt ns ls o s cs → 1 ≤ how_many_coms cs → BackComs s cs
  unfolding csnoc
  back_coms cnil s h le = absurd (omega arith)
  back_coms (ccons c cnil) s h le =
      let z : s ≡ s + 0 = omega arith in
      record {
        init = cnil;
        c = c;
        is = refl;
        front = tt;
        back = subst (λ (x : ℕ). ComAt ns ls o x c) z h.0;
        sizes = omega arith;
        many = omega arith;
      }
  back_coms (ccons c (ccons d cs)) s h le =
      let u = back_coms (ccons d cs) (s + size c) h.1 (omega arith) in
      let z : s + size c + size_coms u.init ≡ s + (size c + size_coms u.init) = omega arith in
      record {
        init = ccons c u.init;
        c = u.c;
        is = ap (ccons c) u.is;
        front = (h.0, u.front);
        back = subst (λ (x : ℕ). ComAt ns ls o x u.c) z u.back;
        sizes = omega (arith, u.sizes);
        many = omega (arith, u.many);
      }

-- a row that takes up no nodes is empty
pub no_procs : (ps : Procs) → size_procs ps ≡ 0 → ps ≡ pnil
no_procs pnil h = refl
no_procs (pcons i m fs c ps) h = absurd (omega arith)

pub no_coms : (cs : Coms) → size_coms cs ≡ 0 → cs ≡ cnil
no_coms cnil h = refl
no_coms (ccons c cs) h = absurd (omega (arith, com_some c))

pub some_procs : (ps : Procs) → 1 ≤ size_procs ps → 1 ≤ how_many_procs ps
some_procs pnil h = absurd (omega arith)
some_procs (pcons i m fs c ps) h = omega arith

pub some_coms : (cs : Coms) → 1 ≤ size_coms cs → 1 ≤ how_many_coms cs
some_coms cnil h = absurd (omega arith)
some_coms (ccons c cs) h = omega arith

module _ (p : Part) where
  pub com_ended : (c : Com) (s e : ℕ) → e ≡ s + size c → e ≤ long p → ComAt p.nodes.now p.lens.now p.first s c → Ended p e × (begins p e ≡ s)
  com_ended (null i) s e q le h = ended_at p (omega arith) q le h
  com_ended (assign i m x) s e q le h = ended_at p (omega arith) q le h.0.end
  com_ended (if i x c d) s e q le h = ended_at p (omega arith) q le h.0
  com_ended (while i x c) s e q le h = ended_at p (omega arith) q le h.0
  com_ended (call i m xs) s e q le h = ended_at p (omega arith) q le h.0.end
  com_ended (block i ds ps cs) s e q le h = ended_at p (omega arith) q le h.0

  pub proc_ended : (i m : ℕ) (fs : List Decl) (c : Com) (s e : ℕ) → e ≡ s + (length fs + size c + 1) → e ≤ long p
      → ProcAt p.nodes.now p.lens.now p.first s i m fs c → Ended p e × (begins p e ≡ s)
  proc_ended i m fs c s e q le h = ended_at p (omega arith) q le h.0.end

  -- one command back
  pub record StepBack (n e : ℕ) : Type 0 where
    pub ended : Ended p e
    pub next : RowEnds p (n - 1) (begins p e)

  pub step_back : (n e : ℕ) → 0 < n → RowEnds p n e → StepBack n e
  step_back n e lt q =
      let u = back_coms p.nodes.now p.lens.now p.first q.cs q.s q.at (omega (arith, q.many)) in
      let z : e ≡ q.s + size_coms u.init + size u.c = omega (arith, q.ends, u.sizes) in
      let b = com_ended u.c (q.s + size_coms u.init) e z q.within u.back in
      record {
        ended = b.0;
        next = record {
          s = q.s;
          cs = u.init;
          at = u.front;
          ends = b.1;
          many = omega (arith, q.many, u.many);
          within = omega (arith, b.1, z, q.within);
        };
      }

  pub skip_more : (n e : ℕ) → 0 < n → skipped p n e ≡ skipped p (n - 1) (begins p e)
  skip_more zero e h = absurd (omega arith)
  skip_more (suc n) e h = let z : suc n - 1 ≡ n = omega arith in rw z refl

  no_more : (cs : Coms) → 0 ≡ how_many_coms cs → size_coms cs ≡ 0
  no_more cnil h = refl
  no_more (ccons c cs) h = absurd (omega arith)

  pub skip_are : (n : ℕ) (cs : Coms) (s e : ℕ) → n ≡ how_many_coms cs → ComsAt p.nodes.now p.lens.now p.first s cs → e ≡ s + size_coms cs → e ≤ long p
      → skipped p n e ≡ s
  skip_are zero cs s e h at q le = omega (arith, no_more cs h)
  skip_are (suc n) cs s e h at q le =
      let u = back_coms p.nodes.now p.lens.now p.first cs s at (omega arith) in
      let z : e ≡ s + size_coms u.init + size u.c = omega (arith, u.sizes) in
      let b = com_ended u.c (s + size_coms u.init) e z le u.back in
      skip_are n u.init s (begins p e) (omega (arith, u.many)) u.front b.1 (omega (arith, b.1, z))

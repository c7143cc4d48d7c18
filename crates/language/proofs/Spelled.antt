-- A rule that is written out as a table is read back from it.
use Rattle.std.proofs.Common.{◌≡◌, ℕ, suc, ◌+◌, true, false, List, [], ◌∷◌, ◌++◌, length, pos, Some, None, Ok, Option, sym, refl, ap, ◌∙◌, append_assoc, append-nil, arith}
use Rattle.language.specs.declared.tables.Node.{Node}
use Rattle.language.specs.declared.values.Scalar.{Scalar}
use Rattle.language.specs.declared.values.Scalar.TheVariants.{Whole as wholes, Truth as truths}
use Rattle.language.specs.Tree.{Decl, Arg, Expr, Com, Procs, Coms, truth, whole, read, plus, less, or, null, assign, if, while, call, block, pnil, pcons, cnil, ccons}
use Rattle.language.specs.Results.{◌>>?◌}
use Rattle.language.specs.Table.{Piece, expr, comm, arg, dec, pro, Stack, as_com_piece, as_arg_piece, as_decl_piece, as_proc_piece, pops, build_from, build}
use Rattle.language.specs.Spelling.{node, type_bit, spell_expr, spell_args, spell_decls, how_many_procs, how_many_coms, spell, spell_procs, spell_coms, size_expr, size, size_procs, size_coms, NumberedExpr, NumberedArgs, NumberedDecls, Numbered, NumberedProcs, NumberedComs, Spells}

-- a piece that stands at j, with j in its tree, and what is read after it
placed : (mk : ℕ → Piece) (i j k : ℕ) (rest : List Node) (st : Stack) → i ≡ j → suc j ≡ k → build_from (suc j) rest (mk j ∷ st) ≡ build_from k rest (mk i ∷ st)
placed mk i j k rest st p q = rw (p, q) refl

builds_expr : (e : Expr) (s : ℕ) (rest : List Node) (st : Stack) → NumberedExpr s e
    → build_from s (spell_expr e ++ rest) st ≡ build_from (s + size_expr e) rest (expr e ∷ st)
builds_expr (truth true) s rest st h = placed (λ i. expr (truth true)) s s (s + 1) rest st refl (omega arith)
builds_expr (truth false) s rest st h = placed (λ i. expr (truth false)) s s (s + 1) rest st refl (omega arith)
builds_expr (whole z) s rest st h = placed (λ i. expr (whole z)) s s (s + 1) rest st refl (omega arith)
builds_expr (read i m) s rest st h = placed (λ i. expr (read i m)) i s (s + 1) rest st h (omega arith)
builds_expr (plus i e f) s rest st h =
    rw (append_assoc, append_assoc, builds_expr e s (spell_expr f ++ (node 3 0 (pos 0) 0 0 0 ∷ rest)) st h.0, builds_expr f (s + size_expr e) (node 3 0 (pos 0) 0 0 0 ∷ rest) (expr e ∷ st) h.1)
    (placed (λ i. expr (plus i e f)) i (s + size_expr e + size_expr f) _ rest st h.2 (omega arith))
builds_expr (less i e f) s rest st h =
    rw (append_assoc, append_assoc, builds_expr e s (spell_expr f ++ (node 4 0 (pos 0) 0 0 0 ∷ rest)) st h.0, builds_expr f (s + size_expr e) (node 4 0 (pos 0) 0 0 0 ∷ rest) (expr e ∷ st) h.1)
    (placed (λ i. expr (less i e f)) i (s + size_expr e + size_expr f) _ rest st h.2 (omega arith))
builds_expr (or i e f) s rest st h =
    rw (append_assoc, append_assoc, builds_expr e s (spell_expr f ++ (node 5 0 (pos 0) 0 0 0 ∷ rest)) st h.0, builds_expr f (s + size_expr e) (node 5 0 (pos 0) 0 0 0 ∷ rest) (expr e ∷ st) h.1)
    (placed (λ i. expr (or i e f)) i (s + size_expr e + size_expr f) _ rest st h.2 (omega arith))

-- pieces of one sort, put on the stack one after another, and taken from it again
abbrev pub add_proc : (ℕ × ℕ × List Decl × Com) → Procs → Procs
add_proc p ps = pcons p.0 p.1 p.2 p.3 ps

abbrev pushed : {A : Type 0} → (A → Piece) → List A → Stack → Stack
pushed inj [] st = st
pushed inj (x ∷ xs) st = pushed inj xs (inj x ∷ st)

abbrev joined : {A B : Type 0} → (A → B → B) → List A → B → B
joined f [] b = b
joined f (x ∷ xs) b = f x (joined f xs b)

module _ {A B : Type 0} (sort : Piece → Option A) (inj : A → Piece) (f : A → B → B) (is : (a : A) → sort (inj a) ≡ Some a) where
  pop_one : (k : ℕ) (b : B) (st : Stack) (x : A) → pops sort f (suc k) b (inj x ∷ st) ≡ pops sort f k (f x b) st
  pop_one k b st x =
      ap (λ (o : Option A). (elim o as (λ _. Option (A × Stack)) [ None ↦ None | Some a ↦ Some (a, st) ]) >>? λ r. pops sort f k (f r.0 b) r.1) (is x)

  pops_some : (xs : List A) (k : ℕ) (b : B) (st : Stack) → pops sort f (length xs + k) b (pushed inj xs st) ≡ pops sort f k (joined f xs b) st
  pops_some [] k b st = ap (λ (j : ℕ). pops sort f j b st) (omega arith)
  pops_some (x ∷ xs) k b st =
      let e : length (x ∷ xs) + k ≡ length xs + suc k = omega arith in
      ap (λ (j : ℕ). pops sort f j b (pushed inj xs (inj x ∷ st))) e ∙ pops_some xs (suc k) b (inj x ∷ st) ∙ pop_one k (joined f xs b) st x

  pops_all : (xs : List A) (n : ℕ) (b c : B) (st : Stack) → n ≡ length xs → joined f xs b ≡ c → pops sort f n b (pushed inj xs st) ≡ Some (c, st)
  pops_all xs n b c st e h =
      let q : n ≡ length xs + 0 = omega arith in
      ap (λ (j : ℕ). pops sort f j b (pushed inj xs st)) q ∙ pops_some xs 0 b st ∙ ap (λ (x : B). Some (x, st)) h

joined_list : {A : Type 0} (xs : List A) → joined ◌∷◌ xs [] ≡ xs
joined_list [] = refl
joined_list (x ∷ xs) = ap (λ ys. x ∷ ys) (joined_list xs)

-- procedures and commands as lists
abbrev proc_list : Procs → List (ℕ × ℕ × List Decl × Com)
proc_list pnil = []
proc_list (pcons i m fs c ps) = (i, m, fs, c) ∷ proc_list ps

abbrev com_list : Coms → List Com
com_list cnil = []
com_list (ccons c cs) = c ∷ com_list cs

joined_procs : (ps : Procs) → joined add_proc (proc_list ps) pnil ≡ ps
joined_procs pnil = refl
joined_procs (pcons i m fs c ps) = ap (pcons i m fs c) (joined_procs ps)

joined_coms : (cs : Coms) → joined ccons (com_list cs) cnil ≡ cs
joined_coms cnil = refl
joined_coms (ccons c cs) = ap (ccons c) (joined_coms cs)

many_procs : (ps : Procs) → how_many_procs ps ≡ length (proc_list ps)
many_procs pnil = refl
many_procs (pcons i m fs c ps) = let e = many_procs ps in omega arith

many_coms : (cs : Coms) → how_many_coms cs ≡ length (com_list cs)
many_coms cnil = refl
many_coms (ccons c cs) = let e = many_coms cs in omega arith

abbrev push_args : List Arg → Stack → Stack
push_args = pushed arg

abbrev push_decls : List Decl → Stack → Stack
push_decls = pushed dec

abbrev push_procs : Procs → Stack → Stack
push_procs ps = pushed (λ p. pro p.0 p.1 p.2 p.3) (proc_list ps)

abbrev push_coms : Coms → Stack → Stack
push_coms cs = pushed comm (com_list cs)

pops_all_args : (b : List Arg) (st : Stack) → pops as_arg_piece ◌∷◌ (length b) [] (push_args b st) ≡ Some (b, st)
pops_all_args b st = pops_all as_arg_piece arg ◌∷◌ (λ a. refl) b (length b) [] b st refl (joined_list b)

pops_all_decls : (b : List Decl) (st : Stack) → pops as_decl_piece ◌∷◌ (length b) [] (push_decls b st) ≡ Some (b, st)
pops_all_decls b st = pops_all as_decl_piece dec ◌∷◌ (λ a. refl) b (length b) [] b st refl (joined_list b)

pops_all_procs : (b : Procs) (st : Stack) → pops as_proc_piece add_proc (how_many_procs b) pnil (push_procs b st) ≡ Some (b, st)
pops_all_procs b st =
    pops_all as_proc_piece (λ p. pro p.0 p.1 p.2 p.3) add_proc (λ a. refl) (proc_list b) (how_many_procs b) pnil b st (many_procs b) (joined_procs b)

pops_all_coms : (b : Coms) (st : Stack) → pops as_com_piece ccons (how_many_coms b) cnil (push_coms b st) ≡ Some (b, st)
pops_all_coms b st = pops_all as_com_piece comm ccons (λ a. refl) (com_list b) (how_many_coms b) cnil b st (many_coms b) (joined_coms b)

builds_args : (xs : List Arg) (s : ℕ) (rest : List Node) (st : Stack) → NumberedArgs s xs
    → build_from s (spell_args xs ++ rest) st ≡ build_from (s + length xs) rest (push_args xs st)
builds_args [] s rest st h = ap (λ (k : ℕ). build_from k rest st) (omega arith)
builds_args (x ∷ xs) s rest st h =
    placed (λ i. arg (record { at = i; name = x.name })) x.at s (s + 1) (spell_args xs ++ rest) st h.0 (omega arith)
    ∙ builds_args xs (s + 1) rest (arg x ∷ st) h.1
    ∙ ap (λ (k : ℕ). build_from k rest (push_args (x ∷ xs) st)) (omega arith)

decl_read : (m : ℕ) (t : Scalar) (s : ℕ) (rest : List Node) (st : Stack)
    → build_from s (node 12 m (type_bit t) 0 0 0 ∷ rest) st ≡ build_from (suc s) rest (dec (record { at = s; name = m; type = t }) ∷ st)
decl_read m wholes s rest st = refl
decl_read m truths s rest st = refl

builds_decls : (ds : List Decl) (s : ℕ) (rest : List Node) (st : Stack) → NumberedDecls s ds
    → build_from s (spell_decls ds ++ rest) st ≡ build_from (s + length ds) rest (push_decls ds st)
builds_decls [] s rest st h = ap (λ (k : ℕ). build_from k rest st) (omega arith)
builds_decls (d ∷ ds) s rest st h =
    decl_read d.name d.type s (spell_decls ds ++ rest) st
    ∙ placed (λ i. dec (record { at = i; name = d.name; type = d.type })) d.at s (s + 1) (spell_decls ds ++ rest) st h.0 (omega arith)
    ∙ builds_decls ds (s + 1) rest (dec d ∷ st) h.1
    ∙ ap (λ (k : ℕ). build_from k rest (push_decls (d ∷ ds) st)) (omega arith)

call_read : (m : ℕ) (xs : List Arg) (s : ℕ) (rest : List Node) (st : Stack)
    → build_from s (node 10 m (pos 0) (length xs) 0 0 ∷ rest) (push_args xs st) ≡ build_from (suc s) rest (comm (call s m xs) ∷ st)
call_read m xs s rest st = rw (pops_all_args xs st) refl

proc_read : (m : ℕ) (fs : List Decl) (c : Com) (s : ℕ) (rest : List Node) (st : Stack)
    → build_from s (node 13 m (pos 0) (length fs) 0 0 ∷ rest) (comm c ∷ push_decls fs st) ≡ build_from (suc s) rest (pro s m fs c ∷ st)
proc_read m fs c s rest st = rw (pops_all_decls fs st) refl

block_read : (ds : List Decl) (ps : Procs) (cs : Coms) (s : ℕ) (rest : List Node) (st : Stack)
    → build_from s (node 14 0 (pos 0) (length ds) (how_many_procs ps) (how_many_coms cs) ∷ rest) (push_coms cs (push_procs ps (push_decls ds st)))
    ≡ build_from (suc s) rest (comm (block s ds ps cs) ∷ st)
block_read ds ps cs s rest st =
    rw (pops_all_coms cs (push_procs ps (push_decls ds st)), pops_all_procs ps (push_decls ds st), pops_all_decls ds st) refl

mutual
  pub builds : (c : Com) (s : ℕ) (rest : List Node) (st : Stack) → Numbered s c
      → build_from s (spell c ++ rest) st ≡ build_from (s + size c) rest (comm c ∷ st)
  builds (null i) s rest st h = placed (λ i. comm (null i)) i s (s + 1) rest st h (omega arith)
  builds (assign i m e) s rest st h =
      rw (append_assoc, builds_expr e s (node 7 m (pos 0) 0 0 0 ∷ rest) st h.0)
      (placed (λ i. comm (assign i m e)) i (s + size_expr e) _ rest st h.1 (omega arith))
  builds (if i e c d) s rest st h =
      rw (
        append_assoc,
        append_assoc,
        append_assoc,
        builds_expr e s (spell c ++ (spell d ++ (node 8 0 (pos 0) 0 0 0 ∷ rest))) st h.0,
        builds c (s + size_expr e) (spell d ++ (node 8 0 (pos 0) 0 0 0 ∷ rest)) (expr e ∷ st) h.1,
        builds d (s + size_expr e + size c) (node 8 0 (pos 0) 0 0 0 ∷ rest) (comm c ∷ expr e ∷ st) h.2,
      )
      (placed (λ i. comm (if i e c d)) i (s + size_expr e + size c + size d) _ rest st h.3 (omega arith))
  builds (while i e c) s rest st h =
      rw (
        append_assoc,
        append_assoc,
        builds_expr e s (spell c ++ (node 9 0 (pos 0) 0 0 0 ∷ rest)) st h.0,
        builds c (s + size_expr e) (node 9 0 (pos 0) 0 0 0 ∷ rest) (expr e ∷ st) h.1,
      )
      (placed (λ i. comm (while i e c)) i (s + size_expr e + size c) _ rest st h.2 (omega arith))
  builds (call i m xs) s rest st h =
      rw (append_assoc, builds_args xs s (node 10 m (pos 0) (length xs) 0 0 ∷ rest) st h.0, call_read m xs (s + length xs) rest st)
      (placed (λ i. comm (call i m xs)) i (s + length xs) _ rest st h.1 (omega arith))
  builds (block i ds ps cs) s rest st h =
      rw (
        append_assoc,
        append_assoc,
        append_assoc,
        builds_decls ds s (spell_procs ps ++ (spell_coms cs ++ (node 14 0 (pos 0) (length ds) (how_many_procs ps) (how_many_coms cs) ∷ rest))) st h.0,
        builds_procs ps (s + length ds) (spell_coms cs ++ (node 14 0 (pos 0) (length ds) (how_many_procs ps) (how_many_coms cs) ∷ rest)) (push_decls ds st) h.1,
        builds_coms cs (s + length ds + size_procs ps) (node 14 0 (pos 0) (length ds) (how_many_procs ps) (how_many_coms cs) ∷ rest) (push_procs ps (push_decls ds st)) h.2,
        block_read ds ps cs (s + length ds + size_procs ps + size_coms cs) rest st,
      )
      (placed (λ i. comm (block i ds ps cs)) i (s + length ds + size_procs ps + size_coms cs) _ rest st h.3 (omega arith))

  pub builds_procs : (ps : Procs) (s : ℕ) (rest : List Node) (st : Stack) → NumberedProcs s ps
      → build_from s (spell_procs ps ++ rest) st ≡ build_from (s + size_procs ps) rest (push_procs ps st)
  builds_procs pnil s rest st h = ap (λ (k : ℕ). build_from k rest st) (omega arith)
  builds_procs (pcons i m fs c ps) s rest st h =
      rw (
        append_assoc,
        append_assoc,
        builds_decls fs s (spell c ++ (node 13 m (pos 0) (length fs) 0 0 ∷ (spell_procs ps ++ rest))) st h.0,
        builds c (s + length fs) (node 13 m (pos 0) (length fs) 0 0 ∷ (spell_procs ps ++ rest)) (push_decls fs st) h.1,
        proc_read m fs c (s + length fs + size c) (spell_procs ps ++ rest) st,
      )
      (placed (λ i. pro i m fs c) i (s + length fs + size c) (s + length fs + size c + 1) (spell_procs ps ++ rest) st h.2 (omega arith)
      ∙ builds_procs ps (s + length fs + size c + 1) rest (pro i m fs c ∷ st) h.3
      ∙ ap (λ (k : ℕ). build_from k rest (push_procs (pcons i m fs c ps) st)) (omega arith))

  pub builds_coms : (cs : Coms) (s : ℕ) (rest : List Node) (st : Stack) → NumberedComs s cs
      → build_from s (spell_coms cs ++ rest) st ≡ build_from (s + size_coms cs) rest (push_coms cs st)
  builds_coms cnil s rest st h = ap (λ (k : ℕ). build_from k rest st) (omega arith)
  builds_coms (ccons c cs) s rest st h =
      rw (append_assoc, builds c s (spell_coms cs ++ rest) st h.0)
      (builds_coms cs (s + size c) rest (comm c ∷ st) h.1 ∙ ap (λ (k : ℕ). build_from k rest (push_coms (ccons c cs) st)) (omega arith))

pub spelled_builds : (nodes : List Node) (c : Com) → Spells nodes c → build nodes ≡ Ok c
spelled_builds nodes c h =
    let e = ap (λ (ns : List Node). build_from 0 ns []) (h.0 ∙ sym (append-nil (spell c))) ∙ builds c 0 [] [] h.1 in
    rw e refl

-- Beside the nodes of a rule written out: the piece that each of them ends.
use Rattle.std.proofs.Common.{◌≡◌, ℕ, ◌+◌, false, List, [], ◌∷◌, ◌++◌, length, get_or, sym, refl, ap, ◌∙◌, append_assoc, append-nil, arith, length-append}
use lib.Seq.{get_or_at}
use Rattle.language.specs.declared.tables.Node.{Node}
use Rattle.language.specs.Tree.{Decl, Arg, Expr, Com, Procs, Coms, truth, whole, read, plus, less, or, null, assign, if, while, call, block, pnil, pcons, cnil, ccons}
use Rattle.language.specs.Table.{Piece, expr, comm, arg, dec, pro}
use Rattle.language.specs.Spelling.{spell_expr, spell_args, spell_decls, spell, spell_procs, spell_coms, size_expr, size, size_procs, size_coms}
use Rattle.table.specs.Stretches.{blank, node_at}
use Rattle.run.specs.Shapes.{Forest}

-- ---- a part of a list
-- ys stands in xs from s on
pub record Part {A : Type 0} (xs : List A) (s : ℕ) (ys : List A) : Type 0 where
  pub front : List A
  pub rest : List A
  pub is : xs ≡ front ++ (ys ++ rest)
  pub place : length front ≡ s

module _ {A : Type 0} {xs : List A} {s : ℕ} where
  part_left : (ys zs : List A) → Part xs s (ys ++ zs) → Part xs s ys
  part_left ys zs p =
      record {
        front = p.front;
        rest = zs ++ p.rest;
        is = p.is ∙ ap (λ (l : List A). p.front ++ l) (append_assoc ys zs p.rest);
        place = p.place;
      }

  part_right : (ys zs : List A) (n : ℕ) → length ys ≡ n → Part xs s (ys ++ zs) → Part xs (s + n) zs
  part_right ys zs n e p =
      record {
        front = p.front ++ ys;
        rest = p.rest;
        is = p.is ∙ ap (λ (l : List A). p.front ++ l) (append_assoc ys zs p.rest) ∙ sym (append_assoc p.front ys (zs ++ p.rest));
        place = length-append p.front ys ∙ omega (arith, p.place, e);
      }

  part_here : (y : A) (ys : List A) (d : A) (i : ℕ) → i ≡ s → Part xs s (y ∷ ys) → get_or xs i d ≡ y
  part_here y ys d i e p =
      ap (λ (l : List A). get_or l i d) p.is ∙ get_or_at p.front y (ys ++ p.rest) d i (p.place ∙ sym e)

part_whole : {A : Type 0} (xs ys : List A) → xs ≡ ys → Part xs 0 ys
part_whole xs ys e = record { front = []; rest = []; is = e ∙ sym (append-nil ys); place = refl }

-- ---- the pieces of a rule, each in the place of the node that ends it
abbrev pub ended_expr : Expr → List Piece
ended_expr (truth b) = expr (truth b) ∷ []
ended_expr (whole z) = expr (whole z) ∷ []
ended_expr (read i m) = expr (read i m) ∷ []
ended_expr (plus i e f) = ended_expr e ++ (ended_expr f ++ (expr (plus i e f) ∷ []))
ended_expr (less i e f) = ended_expr e ++ (ended_expr f ++ (expr (less i e f) ∷ []))
ended_expr (or i e f) = ended_expr e ++ (ended_expr f ++ (expr (or i e f) ∷ []))

abbrev pub ended_args : List Arg → List Piece
ended_args [] = []
ended_args (x ∷ xs) = arg x ∷ ended_args xs

abbrev pub ended_decls : List Decl → List Piece
ended_decls [] = []
ended_decls (d ∷ ds) = dec d ∷ ended_decls ds

abbrev mutual
  pub ended : Com → List Piece
  ended (null i) = comm (null i) ∷ []
  ended (assign i m e) = ended_expr e ++ (comm (assign i m e) ∷ [])
  ended (if i e c d) = ended_expr e ++ (ended c ++ (ended d ++ (comm (if i e c d) ∷ [])))
  ended (while i e c) = ended_expr e ++ (ended c ++ (comm (while i e c) ∷ []))
  ended (call i m xs) = ended_args xs ++ (comm (call i m xs) ∷ [])
  ended (block i ds ps cs) = ended_decls ds ++ (ended_procs ps ++ (ended_coms cs ++ (comm (block i ds ps cs) ∷ [])))

  pub ended_procs : Procs → List Piece
  ended_procs pnil = []
  ended_procs (pcons i m fs c ps) = ended_decls fs ++ (ended c ++ (pro i m fs c ∷ ended_procs ps))

  pub ended_coms : Coms → List Piece
  ended_coms cnil = []
  ended_coms (ccons c cs) = ended c ++ ended_coms cs

abbrev pub com_of : Piece → Com
com_of (expr e) = null 0
com_of (comm c) = c
com_of (arg a) = null 0
com_of (dec d) = null 0
com_of (pro i m fs c) = null 0

abbrev pub expr_of : Piece → Expr
expr_of (expr e) = e
expr_of (comm c) = truth false
expr_of (arg a) = truth false
expr_of (dec d) = truth false
expr_of (pro i m fs c) = truth false

abbrev pub piece_at : List Piece → ℕ → Piece
piece_at all i = get_or all i (arg (record { at = 0; name = 0 }))

abbrev pub forest : List Piece → Forest
forest all = record { tree = λ i. com_of (piece_at all i); expr = λ i. expr_of (piece_at all i) }

-- ---- as many nodes as pieces
record Long (xs : List Node) (ys : List Piece) (n : ℕ) : Type 0 where
  pub nodes : length xs ≡ n
  pub pieces : length ys ≡ n

one : {x : Node} {y : Piece} → Long (x ∷ []) (y ∷ []) 1
one = record { nodes = refl; pieces = refl }

more : {x : Node} {y : Piece} {xs : List Node} {ys : List Piece} {n : ℕ} → Long xs ys n → Long (x ∷ xs) (y ∷ ys) (n + 1)
more l = record { nodes = omega (arith, l.nodes); pieces = omega (arith, l.pieces) }

then : {xs zs : List Node} {ys ws : List Piece} {m n : ℕ} → Long xs ys m → Long zs ws n → Long (xs ++ zs) (ys ++ ws) (m + n)
then {xs} {zs} {ys} {ws} k l =
    record {
      nodes = length-append xs zs ∙ omega (arith, k.nodes, l.nodes);
      pieces = length-append ys ws ∙ omega (arith, k.pieces, l.pieces);
    }

sized : {xs : List Node} {ys : List Piece} {m n : ℕ} → Long xs ys m → m ≡ n → Long xs ys n
sized l e = record { nodes = l.nodes ∙ e; pieces = l.pieces ∙ e }

long_expr : (e : Expr) → Long (spell_expr e) (ended_expr e) (size_expr e)
long_expr (truth b) = one
long_expr (whole z) = one
long_expr (read i m) = one
long_expr (plus i e f) = sized (then (long_expr e) (then (long_expr f) one)) (omega arith)
long_expr (less i e f) = sized (then (long_expr e) (then (long_expr f) one)) (omega arith)
long_expr (or i e f) = sized (then (long_expr e) (then (long_expr f) one)) (omega arith)

long_args : (xs : List Arg) → Long (spell_args xs) (ended_args xs) (length xs)
long_args [] = record { nodes = refl; pieces = refl }
long_args (x ∷ xs) = sized (more (long_args xs)) (omega arith)

long_decls : (ds : List Decl) → Long (spell_decls ds) (ended_decls ds) (length ds)
long_decls [] = record { nodes = refl; pieces = refl }
long_decls (d ∷ ds) = sized (more (long_decls ds)) (omega arith)

mutual
  long_com : (c : Com) → Long (spell c) (ended c) (size c)
  long_com (null i) = one
  long_com (assign i m e) = then (long_expr e) one
  long_com (if i e c d) = sized (then (long_expr e) (then (long_com c) (then (long_com d) one))) (omega arith)
  long_com (while i e c) = sized (then (long_expr e) (then (long_com c) one)) (omega arith)
  long_com (call i m xs) = then (long_args xs) one
  long_com (block i ds ps cs) =
      sized (then (long_decls ds) (then (long_procs ps) (then (long_coms cs) one))) (omega arith)

  long_procs : (ps : Procs) → Long (spell_procs ps) (ended_procs ps) (size_procs ps)
  long_procs pnil = record { nodes = refl; pieces = refl }
  long_procs (pcons i m fs c ps) = sized (then (long_decls fs) (then (long_com c) (more (long_procs ps)))) (omega arith)

  long_coms : (cs : Coms) → Long (spell_coms cs) (ended_coms cs) (size_coms cs)
  long_coms cnil = record { nodes = refl; pieces = refl }
  long_coms (ccons c cs) = then (long_com c) (long_coms cs)

-- ---- a part of the nodes, and the same part of the pieces
pub record Both (ns : List Node) (all : List Piece) (s : ℕ) (xs : List Node) (ys : List Piece) : Type 0 where
  pub nodes : Part ns s xs
  pub pieces : Part all s ys

pub both_whole : (ns : List Node) (c : Com) → ns ≡ spell c → Both ns (ended c) 0 (spell c) (ended c)
both_whole ns c e = record { nodes = part_whole ns (spell c) e; pieces = part_whole (ended c) (ended c) refl }

module _ {ns : List Node} {all : List Piece} {s : ℕ} where
  pub node_here : {x : Node} {xs : List Node} {ys : List Piece} (i : ℕ) → i ≡ s → Both ns all s (x ∷ xs) ys → node_at ns i ≡ x
  node_here {x} {xs} i e p = part_here x xs blank i e p.nodes

  pub piece_here : {y : Piece} {xs : List Node} {ys : List Piece} (i : ℕ) → i ≡ s → Both ns all s xs (y ∷ ys) → piece_at all i ≡ y
  piece_here {y} {xs} {ys} i e p = part_here y ys _ i e p.pieces

  cut : {xs : List Node} {ys : List Piece} {n : ℕ} (zs : List Node) (ws : List Piece) → Long xs ys n → Both ns all s (xs ++ zs) (ys ++ ws)
      → Both ns all s xs ys × Both ns all (s + n) zs ws
  cut {xs} {ys} {n} zs ws l p = (
    record { nodes = part_left xs zs p.nodes; pieces = part_left ys ws p.pieces },
    record { nodes = part_right xs zs n l.nodes p.nodes; pieces = part_right ys ws n l.pieces p.pieces },
  )

  pub cut_expr : (e : Expr) (zs : List Node) (ws : List Piece) → Both ns all s (spell_expr e ++ zs) (ended_expr e ++ ws)
      → Both ns all s (spell_expr e) (ended_expr e) × Both ns all (s + size_expr e) zs ws
  cut_expr e zs ws = cut zs ws (long_expr e)

  pub cut_args : (xs : List Arg) (zs : List Node) (ws : List Piece) → Both ns all s (spell_args xs ++ zs) (ended_args xs ++ ws)
      → Both ns all (s + length xs) zs ws
  cut_args xs zs ws p = (cut zs ws (long_args xs) p).1

  pub cut_decls : (ds : List Decl) (zs : List Node) (ws : List Piece) → Both ns all s (spell_decls ds ++ zs) (ended_decls ds ++ ws)
      → Both ns all (s + length ds) zs ws
  cut_decls ds zs ws p = (cut zs ws (long_decls ds) p).1

  pub cut_com : (c : Com) (zs : List Node) (ws : List Piece) → Both ns all s (spell c ++ zs) (ended c ++ ws)
      → Both ns all s (spell c) (ended c) × Both ns all (s + size c) zs ws
  cut_com c zs ws = cut zs ws (long_com c)

  pub cut_procs : (ps : Procs) (zs : List Node) (ws : List Piece) → Both ns all s (spell_procs ps ++ zs) (ended_procs ps ++ ws)
      → Both ns all s (spell_procs ps) (ended_procs ps) × Both ns all (s + size_procs ps) zs ws
  cut_procs ps zs ws = cut zs ws (long_procs ps)

  pub cut_coms : (cs : Coms) (zs : List Node) (ws : List Piece) → Both ns all s (spell_coms cs ++ zs) (ended_coms cs ++ ws)
      → Both ns all s (spell_coms cs) (ended_coms cs) × Both ns all (s + size_coms cs) zs ws
  cut_coms cs zs ws = cut zs ws (long_coms cs)

  pub cut_one : {x : Node} {y : Piece} {xs : List Node} {ys : List Piece} → Both ns all s (x ∷ xs) (y ∷ ys) → Both ns all (s + 1) xs ys
  cut_one {x} {y} {xs} {ys} p = (cut {xs = x ∷ []} {ys = y ∷ []} xs ys one p).1

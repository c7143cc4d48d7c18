-- A table read from its first node on: each node takes the finished pieces right before it.
use Rattle.std.specs.Prelude.{ℕ, zero, suc, pred, Bool, true, false, cond, ◌&&◌, ◌||◌, List, [], ◌∷◌, length, ℤ, pos, negsuc, Some, None, Ok, Err, Option, Result, ◌==◌, nat_lt}
use Rattle.language.specs.declared.tables.Node.{Node}
use Rattle.language.specs.declared.tables.Kind.{Kind}
use Rattle.language.specs.declared.tables.Kind.TheVariants.{Truth, Whole, Read, Plus, Less, Or, Null, Assign, If, While, Call, Argument, Decl as DeclKind, Proc, Block}
use Rattle.language.specs.declared.values.Scalar.{Scalar}
use Rattle.language.specs.declared.values.Scalar.TheVariants.{Whole as wholes, Truth as truths}
use Rattle.language.specs.declared.faults.Fault.{Fault}
use Rattle.language.specs.declared.faults.Layer.TheVariants.{Table}
use Rattle.language.specs.declared.faults.TableCause.{TableCause}
use Rattle.language.specs.declared.faults.TableCause.TheVariants.{Kind as KindCause, Fields, Pieces, Whole as WholeCause}
use Rattle.language.specs.Faults.{fault}
use Rattle.language.specs.Kinds.{with_number}
use Rattle.language.specs.Results.{◌>>=◌, ◌>>?◌, asked, or_else}
use Rattle.language.specs.Tree.{Decl, Arg, Expr, Com, truth, whole, read, plus, less, or, null, assign, if, while, call, block, pnil, pcons, cnil, ccons}

-- a finished piece of a table
pub data Piece : Type 0 where
  expr : Expr → Piece
  comm : Com → Piece
  arg : Arg → Piece
  dec : Decl → Piece
  pro : (at name : ℕ) → List Decl → Com → Piece

-- the newest piece first
abbrev pub Stack : Type 0
Stack = List Piece

abbrev pub type_of : ℤ → Scalar
type_of (pos n) = cond (n == 0) wholes truths
type_of (negsuc n) = truths

abbrev pub as_expr_piece : Piece → Option Expr
as_expr_piece (expr e) = Some e
as_expr_piece (comm c) = None
as_expr_piece (arg a) = None
as_expr_piece (dec d) = None
as_expr_piece (pro p m fs c) = None

abbrev pub as_com_piece : Piece → Option Com
as_com_piece (expr e) = None
as_com_piece (comm c) = Some c
as_com_piece (arg a) = None
as_com_piece (dec d) = None
as_com_piece (pro p m fs c) = None

abbrev pub as_arg_piece : Piece → Option Arg
as_arg_piece (expr e) = None
as_arg_piece (comm c) = None
as_arg_piece (arg a) = Some a
as_arg_piece (dec d) = None
as_arg_piece (pro p m fs c) = None

abbrev pub as_decl_piece : Piece → Option Decl
as_decl_piece (expr e) = None
as_decl_piece (comm c) = None
as_decl_piece (arg a) = None
as_decl_piece (dec d) = Some d
as_decl_piece (pro p m fs c) = None

abbrev pub as_proc_piece : Piece → Option (ℕ × ℕ × List Decl × Com)
as_proc_piece (expr e) = None
as_proc_piece (comm c) = None
as_proc_piece (arg a) = None
as_proc_piece (dec d) = None
as_proc_piece (pro p m fs c) = Some (p, m, fs, c)

-- the newest piece, if it is of the sort that is wanted
abbrev pub pop : {A : Type 0} → (Piece → Option A) → Stack → Option (A × Stack)
pop sort [] = None
pop sort (p ∷ s) = elim (sort p) [ None ↦ None | Some a ↦ Some (a, s) ]

-- the newest n pieces, folded from the newest on
abbrev pub pops : {A B : Type 0} → (Piece → Option A) → (A → B → B) → ℕ → B → Stack → Option (B × Stack)
pops sort f zero b s = Some (b, s)
pops sort f (suc n) b s = pop sort s >>? λ r. pops sort f n (f r.0 b) r.1

abbrev pub two : Stack → (Expr → Expr → Expr) → Option Stack
two s f = pop as_expr_piece s >>? λ r. pop as_expr_piece r.1 >>? λ l. Some (expr (f l.0 r.0) ∷ l.1)

-- the pieces after a node of a known kind, at the place i
abbrev pub take_pieces : Kind → ℕ → Node → Stack → Option Stack
take_pieces Truth i n s = Some (expr (truth (elim (type_of n.value) [ wholes ↦ false | truths ↦ true ])) ∷ s)
take_pieces Whole i n s = Some (expr (whole n.value) ∷ s)
take_pieces Read i n s = Some (expr (read i n.name) ∷ s)
take_pieces Plus i n s = two s (plus i)
take_pieces Less i n s = two s (less i)
take_pieces Or i n s = two s (or i)
take_pieces Null i n s = Some (comm (null i) ∷ s)
take_pieces Assign i n s = pop as_expr_piece s >>? λ e. Some (comm (assign i n.name e.0) ∷ e.1)
take_pieces If i n s =
    pop as_com_piece s >>? λ e. pop as_com_piece e.1 >>? λ t. pop as_expr_piece t.1 >>? λ x. Some (comm (if i x.0 t.0 e.0) ∷ x.1)
take_pieces While i n s = pop as_com_piece s >>? λ b. pop as_expr_piece b.1 >>? λ x. Some (comm (while i x.0 b.0) ∷ x.1)
take_pieces Call i n s = pops as_arg_piece ◌∷◌ n.a [] s >>? λ r. Some (comm (call i n.name r.0) ∷ r.1)
take_pieces Argument i n s = Some (arg (record { at = i; name = n.name }) ∷ s)
take_pieces DeclKind i n s = Some (dec (record { at = i; name = n.name; type = type_of n.value }) ∷ s)
take_pieces Proc i n s =
    pop as_com_piece s >>? λ c. pops as_decl_piece ◌∷◌ n.a [] c.1 >>? λ r. Some (pro i n.name r.0 c.0 ∷ r.1)
take_pieces Block i n s =
    pops as_com_piece ccons n.c cnil s >>? λ c.
    pops as_proc_piece (λ p ps. pcons p.0 p.1 p.2 p.3 ps) n.b pnil c.1 >>? λ p.
    pops as_decl_piece ◌∷◌ n.a [] p.1 >>? λ d. Some (comm (block i d.0 p.0 c.0) ∷ d.1)

abbrev pub is_zero : ℤ → Bool
is_zero (pos n) = n == 0
is_zero (negsuc n) = false

abbrev pub bit_of : ℤ → Bool
bit_of (pos n) = nat_lt n 2
bit_of (negsuc n) = false

-- unlisted fields are 0, and listed values allowed
abbrev pub fields_ok : (name : Bool) (value : ℤ → Bool) (a bc : Bool) → Node → Bool
fields_ok name value a bc n =
    (name || n.name == 0) && value n.value && (a || n.a == 0) && (bc || (n.b == 0 && n.c == 0))

abbrev pub formed : Kind → Node → Bool
formed Truth = fields_ok false bit_of false false
formed Whole = fields_ok false (λ z. true) false false
formed Read = fields_ok true is_zero false false
formed Plus = fields_ok false is_zero false false
formed Less = fields_ok false is_zero false false
formed Or = fields_ok false is_zero false false
formed Null = fields_ok false is_zero false false
formed Assign = fields_ok true is_zero false false
formed If = fields_ok false is_zero false false
formed While = fields_ok false is_zero false false
formed Call = fields_ok true is_zero true false
formed Argument = fields_ok true is_zero false false
formed DeclKind = fields_ok true bit_of false false
formed Proc = fields_ok true is_zero true false
formed Block = fields_ok false is_zero true true

abbrev pub refusal : TableCause → ℕ → Fault
refusal cause i = fault (Table cause) i

-- the three questions of one node
abbrev pub node_step : ℕ → Node → Stack → Result Stack Fault
node_step i n s =
    or_else (refusal KindCause i) (with_number n.kind) >>= λ k.
    asked (formed k n) (refusal Fields i) >>= λ _. or_else (refusal Pieces i) (take_pieces k i n s)

abbrev pub build_from : ℕ → List Node → Stack → Result Stack Fault
build_from i [] s = Ok s
build_from i (n ∷ ns) s = node_step i n s >>= λ s'. build_from (suc i) ns s'

abbrev pub only_com : ℕ → Stack → Result Com Fault
only_com last [] = Err (refusal WholeCause last)
only_com last (p ∷ []) = or_else (refusal WholeCause last) (as_com_piece p)
only_com last (p ∷ q ∷ s) = Err (refusal WholeCause last)

-- the rule of a table, or the first refusal
abbrev pub build : List Node → Result Com Fault
build ns = build_from 0 ns [] >>= λ s. only_com (pred (length ns)) s

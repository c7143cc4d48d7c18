-- A table that is read to the end is the rule's, written out.
use Rattle.std.proofs.Common.{◌≡◌, ℕ, zero, suc, pred, ◌+◌, Bool, true, false, cond, ◌&&◌, ◌||◌, eqb, ◌↔◌, List, [], ◌∷◌, ◌++◌, length, ℤ, pos, negsuc, Some, None, Ok, Option, sym, refl, ap, ◌∙◌, subst, append_assoc, append-nil, arith}
use mathlib.Core.Path.{subst⁻¹}
use Rattle.std.proofs.lemmas.Bool.{and_parts, ltb-true, eqb-true, false≢true}
use Rattle.language.specs.declared.tables.Node.{Node}
use Rattle.language.specs.declared.values.Scalar.{Scalar}
use Rattle.language.specs.declared.values.Scalar.TheVariants.{Whole as wholes, Truth as truths}
use Rattle.language.specs.Tree.{Decl, Arg, Expr, Com, Procs, Coms, truth, whole, read, plus, less, or, null, assign, if, while, call, block, pnil, cnil, ccons}
use Rattle.language.specs.declared.tables.Kind.{Kind}
use Rattle.language.specs.declared.tables.Kind.TheVariants.{Truth, Whole, Read, Plus, Less, Or, Null, Assign, If, While, Call, Argument, Decl as DeclKind, Proc, Block}
use Rattle.language.specs.Kinds.{with_number, numbered}
use Rattle.language.specs.Results.{or_else}
use Rattle.language.specs.Table.{Piece, expr, comm, arg, dec, pro, Stack, type_of, as_expr_piece, as_com_piece, as_arg_piece, as_decl_piece, as_proc_piece, pop, pops, two, take_pieces, is_zero, bit_of, fields_ok, formed, node_step, build_from, only_com, build}
use Rattle.language.specs.Spelling.{node, type_bit, spell_expr, spell_args, spell_decls, how_many_procs, how_many_coms, spell, spell_procs, spell_coms, size_expr, size, size_procs, size_coms, NumberedExpr, NumberedArgs, NumberedDecls, Numbered, NumberedProcs, NumberedComs, Spells}
use Rattle.language.proofs.Binds.{bind_ok, asked_ok, no_ok, no_some, some_is, bind_some, or_else_ok}
use Rattle.language.proofs.Spelled.{spelled_builds, add_proc}

-- a stack written out, the oldest piece first
abbrev spell_piece : Piece → List Node
spell_piece (expr e) = spell_expr e
spell_piece (comm c) = spell c
spell_piece (arg x) = node 11 x.name (pos 0) 0 0 0 ∷ []
spell_piece (dec d) = node 12 d.name (type_bit d.type) 0 0 0 ∷ []
spell_piece (pro i m fs c) = spell_decls fs ++ (spell c ++ (node 13 m (pos 0) (length fs) 0 0 ∷ []))

abbrev size_piece : Piece → ℕ
size_piece (expr e) = size_expr e
size_piece (comm c) = size c
size_piece (arg x) = 1
size_piece (dec d) = 1
size_piece (pro i m fs c) = length fs + size c + 1

abbrev NumberedPiece : ℕ → Piece → Type 0
NumberedPiece s (expr e) = NumberedExpr s e
NumberedPiece s (comm c) = Numbered s c
NumberedPiece s (arg x) = x.at ≡ s
NumberedPiece s (dec d) = d.at ≡ s
NumberedPiece s (pro i m fs c) = NumberedDecls s fs × Numbered (s + length fs) c × (i ≡ s + length fs + size c)

abbrev spell_stack : Stack → List Node
spell_stack [] = []
spell_stack (p ∷ st) = spell_stack st ++ spell_piece p

abbrev size_stack : Stack → ℕ
size_stack [] = 0
size_stack (p ∷ st) = size_stack st + size_piece p

abbrev NumberedStack : Stack → Type 0
NumberedStack [] = Unit {0}
NumberedStack (p ∷ st) = NumberedPiece (size_stack st) p × NumberedStack st

-- what one more node makes of a stack
abbrev Stepped : Node → Stack → Stack → Type 0
Stepped n st st₁ = (spell_stack st₁ ≡ spell_stack st ++ (n ∷ [])) × (size_stack st₁ ≡ suc (size_stack st)) × NumberedStack st₁

popped_piece : {A : Type 0} (sort : Piece → Option A) (st : Stack) (r : A × Stack) → pop sort st ≡ Some r
    → (p : Piece) × (sort p ≡ Some r.0) × (st ≡ p ∷ r.1)
popped_piece {A} sort [] r h = absurd (no_some r h)
popped_piece {A} sort (p ∷ st) r h = go (sort p) refl h
  where
    go : (o : Option A) → sort p ≡ o → ◌≡◌ {A = Option (A × Stack)} (elim o [ None ↦ None | Some a ↦ Some (a, st) ]) (Some r)
        → (q : Piece) × (sort q ≡ Some r.0) × (p ∷ st ≡ q ∷ r.1)
    go None e h = absurd (no_some r h)
    go (Some a) e h = let x : a ≡ r.0 = cc in let y : st ≡ r.1 = cc in (p, cc, cc)

is_expr : (p : Piece) (a : Expr) → as_expr_piece p ≡ Some a → p ≡ expr a
is_expr (expr e) a h = cc
is_expr (comm c) a h = cc
is_expr (arg x) a h = cc
is_expr (dec d) a h = cc
is_expr (pro i m fs c) a h = cc

is_com : (p : Piece) (a : Com) → as_com_piece p ≡ Some a → p ≡ comm a
is_com (expr e) a h = cc
is_com (comm c) a h = cc
is_com (arg x) a h = cc
is_com (dec d) a h = cc
is_com (pro i m fs c) a h = cc

is_arg : (p : Piece) (a : Arg) → as_arg_piece p ≡ Some a → p ≡ arg a
is_arg (expr e) a h = cc
is_arg (comm c) a h = cc
is_arg (arg x) a h = cc
is_arg (dec d) a h = cc
is_arg (pro i m fs c) a h = cc

is_decl : (p : Piece) (a : Decl) → as_decl_piece p ≡ Some a → p ≡ dec a
is_decl (expr e) a h = cc
is_decl (comm c) a h = cc
is_decl (arg x) a h = cc
is_decl (dec d) a h = cc
is_decl (pro i m fs c) a h = cc

is_proc : (p : Piece) (a : ℕ × ℕ × List Decl × Com) → as_proc_piece p ≡ Some a → p ≡ pro a.0 a.1 a.2 a.3
is_proc (expr e) a h = cc
is_proc (comm c) a h = cc
is_proc (arg x) a h = cc
is_proc (dec d) a h = cc
is_proc (pro i m fs c) a h = cc

pop_expr : (st : Stack) (r : Expr × Stack) → pop as_expr_piece st ≡ Some r → st ≡ expr r.0 ∷ r.1
pop_expr st r h = let (p, x, y) = popped_piece as_expr_piece st r h in let z = is_expr p r.0 x in cc

pop_com : (st : Stack) (r : Com × Stack) → pop as_com_piece st ≡ Some r → st ≡ comm r.0 ∷ r.1
pop_com st r h = let (p, x, y) = popped_piece as_com_piece st r h in let z = is_com p r.0 x in cc

-- pieces of one sort, taken from a stack into a list of theirs
record Family (A B : Type 0) : Type 1 where
  sort : Piece → Option A
  inj : A → Piece
  nil : B
  cons : A → B → B
  spells : B → List Node
  sized : B → ℕ
  count : B → ℕ
  Num : ℕ → B → Type 0
  is : (p : Piece) (a : A) → sort p ≡ Some a → p ≡ inj a
  spells_nil : spells nil ≡ []
  spells_cons : (a : A) (b : B) → spells (cons a b) ≡ spell_piece (inj a) ++ spells b
  sized_nil : sized nil ≡ 0
  sized_cons : (a : A) (b : B) → sized (cons a b) ≡ size_piece (inj a) + sized b
  count_nil : count nil ≡ 0
  count_cons : (a : A) (b : B) → count (cons a b) ≡ suc (count b)
  num_nil : (s : ℕ) → Num s nil
  num_cons : (s : ℕ) (a : A) (b : B) → NumberedPiece s (inj a) → Num (s + size_piece (inj a)) b → Num s (cons a b)

abbrev args : Family Arg (List Arg)
args = record {
  sort = as_arg_piece;
  inj = arg;
  nil = [];
  cons = ◌∷◌;
  spells = spell_args;
  sized = length;
  count = length;
  Num = NumberedArgs;
  is = is_arg;
  spells_nil = refl;
  spells_cons = λ a b. refl;
  sized_nil = refl;
  sized_cons = λ a b. omega arith;
  count_nil = refl;
  count_cons = λ a b. refl;
  num_nil = λ s. tt;
  num_cons = λ s a b p q. (p, q);
}

abbrev decls : Family Decl (List Decl)
decls = record {
  sort = as_decl_piece;
  inj = dec;
  nil = [];
  cons = ◌∷◌;
  spells = spell_decls;
  sized = length;
  count = length;
  Num = NumberedDecls;
  is = is_decl;
  spells_nil = refl;
  spells_cons = λ a b. refl;
  sized_nil = refl;
  sized_cons = λ a b. omega arith;
  count_nil = refl;
  count_cons = λ a b. refl;
  num_nil = λ s. tt;
  num_cons = λ s a b p q. (p, q);
}

abbrev coms : Family Com Coms
coms = record {
  sort = as_com_piece;
  inj = comm;
  nil = cnil;
  cons = ccons;
  spells = spell_coms;
  sized = size_coms;
  count = how_many_coms;
  Num = NumberedComs;
  is = is_com;
  spells_nil = refl;
  spells_cons = λ a b. refl;
  sized_nil = refl;
  sized_cons = λ a b. refl;
  count_nil = refl;
  count_cons = λ a b. omega arith;
  num_nil = λ s. tt;
  num_cons = λ s a b p q. (p, q);
}

abbrev procs : Family (ℕ × ℕ × List Decl × Com) Procs
procs = record {
  sort = as_proc_piece;
  inj = λ a. pro a.0 a.1 a.2 a.3;
  nil = pnil;
  cons = add_proc;
  spells = spell_procs;
  sized = size_procs;
  count = how_many_procs;
  Num = NumberedProcs;
  is = is_proc;
  spells_nil = refl;
  spells_cons = λ a b. simp append_assoc;
  sized_nil = refl;
  sized_cons = λ a b. refl;
  count_nil = refl;
  count_cons = λ a b. omega arith;
  num_nil = λ s. tt;
  num_cons = λ s a b p q. (p.0, p.1, p.2, subst (λ (k : ℕ). NumberedProcs k b) (omega arith) q);
}

module _ {A B : Type 0} (F : Family A B) where
  pops_parts : (k : ℕ) (b : B) (st : Stack) (r : B × Stack) → pops F.sort F.cons k b st ≡ Some r → NumberedStack st → F.Num (size_stack st) b
      → (spell_stack st ++ F.spells b ≡ spell_stack r.1 ++ F.spells r.0) × (size_stack st + F.sized b ≡ size_stack r.1 + F.sized r.0)
      × (F.count r.0 ≡ k + F.count b) × NumberedStack r.1 × F.Num (size_stack r.1) r.0
  pops_parts zero b st r h num own =
      let e : (b, st) ≡ r = cc in
      subst (λ (x : B × Stack). (spell_stack st ++ F.spells b ≡ spell_stack x.1 ++ F.spells x.0) × (size_stack st + F.sized b ≡ size_stack x.1 + F.sized x.0)
      × (F.count x.0 ≡ 0 + F.count b) × NumberedStack x.1 × F.Num (size_stack x.1) x.0) e
      (refl, refl, omega arith, num, own)
  pops_parts (suc k) b st r h num own =
      let (q, x, y) = bind_some (pop F.sort st) _ r h in
      let (p, u, v) = popped_piece F.sort st q x in
      let w : st ≡ F.inj q.0 ∷ q.1 = v ∙ ap (λ (z : Piece). z ∷ q.1) (F.is p q.0 u) in
      let num' = subst NumberedStack w num in
      let own' = F.num_cons (size_stack q.1) q.0 b num'.0 (subst (λ (s : Stack). F.Num (size_stack s) b) w own) in
      let (a₁, a₂, a₃, a₄, a₅) = pops_parts k (F.cons q.0 b) q.1 r y num'.1 own' in
      let c = F.count_cons q.0 b in
      let d = F.sized_cons q.0 b in
      let d₂ = ap size_stack w in (
        rw w (append_assoc (spell_stack q.1) (spell_piece (F.inj q.0)) (F.spells b) ∙ ap (λ (z : List Node). spell_stack q.1 ++ z) (sym (F.spells_cons q.0 b)) ∙ a₁),
        omega arith,
        omega arith,
        a₄,
        a₅,
      )

  taken : (k : ℕ) (st : Stack) (r : B × Stack) → pops F.sort F.cons k F.nil st ≡ Some r → NumberedStack st
      → (spell_stack st ≡ spell_stack r.1 ++ F.spells r.0) × (size_stack st ≡ size_stack r.1 + F.sized r.0)
      × (F.count r.0 ≡ k) × NumberedStack r.1 × F.Num (size_stack r.1) r.0
  taken k st r h num =
      let (a₁, a₂, a₃, a₄, a₅) = pops_parts k F.nil st r h num (F.num_nil (size_stack st)) in
      let c = F.count_nil in
      let d = F.sized_nil in
      (sym (append-nil (spell_stack st)) ∙ ap (λ (z : List Node). spell_stack st ++ z) (sym F.spells_nil) ∙ a₁, omega arith, omega arith, a₄, a₅)

-- what a node's fields say
node_is : (n : Node) (k m : ℕ) (v : ℤ) (a b c : ℕ) → n.kind ≡ k → n.name ≡ m → n.value ≡ v → n.a ≡ a → n.b ≡ b → n.c ≡ c → n ≡ node k m v a b c
node_is n k m v a b c p q r s t u = λ i. record { kind = p i; name = q i; value = r i; a = s i; b = t i; c = u i }

kept : (t : Bool) (x : ℕ) → (t || eqb x 0) ≡ true → x ≡ cond t x 0
kept true x h = refl
kept false x h = eqb-true x 0 h

kept_both : (t : Bool) (x y : ℕ) → (t || (eqb x 0 && eqb y 0)) ≡ true → (x ≡ cond t x 0) × (y ≡ cond t y 0)
kept_both true x y h = (refl, refl)
kept_both false x y h = let (p, q) = and_parts (eqb x 0) (eqb y 0) h in (eqb-true x 0 p, eqb-true y 0 q)

clean : (nm : Bool) (val : ℤ → Bool) (a bc : Bool) (n : Node) (k : ℕ) → n.kind ≡ k → fields_ok nm val a bc n ≡ true
    → (n ≡ node k (cond nm n.name 0) n.value (cond a n.a 0) (cond bc n.b 0) (cond bc n.c 0)) × (val n.value ≡ true)
clean nm val a bc n k e h =
    let (p, q) = and_parts ((nm || eqb n.name 0) && val n.value && (a || eqb n.a 0)) _ h in
    let (r, s) = and_parts ((nm || eqb n.name 0) && val n.value) _ p in
    let (t, u) = and_parts (nm || eqb n.name 0) _ r in
    let (v, w) = kept_both bc n.b n.c q in
    (node_is n k _ n.value _ _ _ e (kept nm n.name t) refl (kept a n.a s) v w, u)

zero_is : (v : ℤ) → is_zero v ≡ true → v ≡ pos 0
zero_is (pos n) h = ap pos (eqb-true n 0 h)
zero_is (negsuc n) h = absurd (false≢true h)

clean_zero : (nm a bc : Bool) (n : Node) (k : ℕ) → n.kind ≡ k → fields_ok nm is_zero a bc n ≡ true
    → n ≡ node k (cond nm n.name 0) (pos 0) (cond a n.a 0) (cond bc n.b 0) (cond bc n.c 0)
clean_zero nm a bc n k e h =
    let (p, q) = clean nm is_zero a bc n k e h in
    p ∙ ap (λ (v : ℤ). node k (cond nm n.name 0) v (cond a n.a 0) (cond bc n.b 0) (cond bc n.c 0)) (zero_is n.value q)

bit_type : (v : ℤ) → bit_of v ≡ true → v ≡ type_bit (type_of v)
bit_type (pos zero) h = refl
bit_type (pos (suc zero)) h = refl
bit_type (pos (suc (suc n))) h = let x = ltb-true (suc (suc n)) 2 h in absurd (omega arith)
bit_type (negsuc n) h = absurd (false≢true h)

abbrev is_truth : Scalar → Bool
is_truth t = elim t [ wholes ↦ false | truths ↦ true ]

bit_truth : (t : Scalar) → type_bit t ≡ pos (cond (is_truth t) 1 0)
bit_truth wholes = refl
bit_truth truths = refl

-- the number of a kind is the number that it was found by
number_is : (m : ℕ) (k : Kind) → with_number m ≡ Some k → m ≡ numbered k
number_is zero k h = ap numbered (some_is _ k h)
number_is (suc zero) k h = ap numbered (some_is _ k h)
number_is (suc (suc zero)) k h = ap numbered (some_is _ k h)
number_is (suc (suc (suc zero))) k h = ap numbered (some_is _ k h)
number_is (suc (suc (suc (suc zero)))) k h = ap numbered (some_is _ k h)
number_is (suc (suc (suc (suc (suc zero))))) k h = ap numbered (some_is _ k h)
number_is (suc (suc (suc (suc (suc (suc zero)))))) k h = ap numbered (some_is _ k h)
number_is (suc (suc (suc (suc (suc (suc (suc zero))))))) k h = ap numbered (some_is _ k h)
number_is (suc (suc (suc (suc (suc (suc (suc (suc zero)))))))) k h = ap numbered (some_is _ k h)
number_is (suc (suc (suc (suc (suc (suc (suc (suc (suc zero))))))))) k h = ap numbered (some_is _ k h)
number_is (suc (suc (suc (suc (suc (suc (suc (suc (suc (suc zero)))))))))) k h = ap numbered (some_is _ k h)
number_is (suc (suc (suc (suc (suc (suc (suc (suc (suc (suc (suc zero))))))))))) k h = ap numbered (some_is _ k h)
number_is (suc (suc (suc (suc (suc (suc (suc (suc (suc (suc (suc (suc zero)))))))))))) k h = ap numbered (some_is _ k h)
number_is (suc (suc (suc (suc (suc (suc (suc (suc (suc (suc (suc (suc (suc zero))))))))))))) k h = ap numbered (some_is _ k h)
number_is (suc (suc (suc (suc (suc (suc (suc (suc (suc (suc (suc (suc (suc (suc zero)))))))))))))) k h = ap numbered (some_is _ k h)
number_is (suc (suc (suc (suc (suc (suc (suc (suc (suc (suc (suc (suc (suc (suc (suc m))))))))))))))) k h = absurd (no_some k h)

stepped : (n k : Node) (st st₂ st₁ : Stack) → n ≡ k → Some st₂ ≡ Some st₁ → Stepped k st st₂ → Stepped n st st₁
stepped n k st st₂ st₁ e h x = subst⁻¹ (λ (m : Node). Stepped m st st₁) e (subst (Stepped k st) (some_is st₂ st₁ h) x)

two_step : (mk : Expr → Expr → Expr) (i : ℕ) (n k : Node) → n ≡ k
    → ((e f : Expr) → spell_expr (mk e f) ≡ spell_expr e ++ (spell_expr f ++ (k ∷ [])))
    → ((e f : Expr) → size_expr (mk e f) ≡ size_expr e + size_expr f + 1)
    → ((s : ℕ) (e f : Expr) → NumberedExpr s e → NumberedExpr (s + size_expr e) f → i ≡ s + size_expr e + size_expr f → NumberedExpr s (mk e f))
    → (st st₁ : Stack) → two st mk ≡ Some st₁ → i ≡ size_stack st → NumberedStack st → Stepped n st st₁
two_step mk i n k e l₁ l₂ l₃ st st₁ h ei num =
    let (r, p, q) = bind_some (pop as_expr_piece st) _ st₁ h in
    let (l, p₂, q₂) = bind_some (pop as_expr_piece r.1) _ st₁ q in
    let w : st ≡ expr r.0 ∷ expr l.0 ∷ l.1 = pop_expr st r p ∙ ap (λ (x : Stack). expr r.0 ∷ x) (pop_expr r.1 l p₂) in
    let b : size_stack st ≡ size_stack l.1 + size_expr l.0 + size_expr r.0 = ap size_stack w in
    let a : spell_stack st ≡ spell_stack l.1 ++ spell_expr l.0 ++ spell_expr r.0 = ap spell_stack w in
    let c = l₂ l.0 r.0 in
    let num' = subst NumberedStack w num in
    stepped n k st (expr (mk l.0 r.0) ∷ l.1) st₁ e q₂
    (rw (a, l₁ l.0 r.0) (simp append_assoc), omega arith, (l₃ (size_stack l.1) l.0 r.0 num'.1.0 num'.0 (omega arith), num'.1.1))

step : (k : Kind) (i : ℕ) (n : Node) (st st₁ : Stack) → n.kind ≡ numbered k → formed k n ≡ true → take_pieces k i n st ≡ Some st₁
    → i ≡ size_stack st → NumberedStack st → Stepped n st st₁
step Truth i n st st₁ e f h ei num =
    let (p, q) = clean false bit_of false false n 0 e f in
    stepped n (node 0 0 (pos (cond (is_truth (type_of n.value)) 1 0)) 0 0 0) st (expr (truth (is_truth (type_of n.value))) ∷ st) st₁
    (p ∙ ap (λ (v : ℤ). node 0 0 v 0 0 0) (bit_type n.value q ∙ bit_truth (type_of n.value))) h (refl, omega arith, (tt, num))
step Whole i n st st₁ e f h ei num =
    stepped n (node 1 0 n.value 0 0 0) st (expr (whole n.value) ∷ st) st₁ (clean false (λ z. true) false false n 1 e f).0 h (refl, omega arith, (tt, num))
step Read i n st st₁ e f h ei num =
    stepped n (node 2 n.name (pos 0) 0 0 0) st (expr (read i n.name) ∷ st) st₁ (clean_zero true false false n 2 e f) h (refl, omega arith, (ei, num))
step Plus i n st st₁ e f h ei num =
    two_step (plus i) i n (node 3 0 (pos 0) 0 0 0) (clean_zero false false false n 3 e f) (λ e f. refl) (λ e f. refl) (λ s e f a b c. (a, b, c)) st st₁ h ei num
step Less i n st st₁ e f h ei num =
    two_step (less i) i n (node 4 0 (pos 0) 0 0 0) (clean_zero false false false n 4 e f) (λ e f. refl) (λ e f. refl) (λ s e f a b c. (a, b, c)) st st₁ h ei num
step Or i n st st₁ e f h ei num =
    two_step (or i) i n (node 5 0 (pos 0) 0 0 0) (clean_zero false false false n 5 e f) (λ e f. refl) (λ e f. refl) (λ s e f a b c. (a, b, c)) st st₁ h ei num
step Null i n st st₁ e f h ei num =
    stepped n (node 6 0 (pos 0) 0 0 0) st (comm (null i) ∷ st) st₁ (clean_zero false false false n 6 e f) h (refl, omega arith, (ei, num))
step Assign i n st st₁ e f h ei num =
    let (r, p, q) = bind_some (pop as_expr_piece st) _ st₁ h in
    let w : st ≡ expr r.0 ∷ r.1 = pop_expr st r p in
    let b : size_stack st ≡ size_stack r.1 + size_expr r.0 = ap size_stack w in
    let a : spell_stack st ≡ spell_stack r.1 ++ spell_expr r.0 = ap spell_stack w in
    let num' = subst NumberedStack w num in
    stepped n (node 7 n.name (pos 0) 0 0 0) st (comm (assign i n.name r.0) ∷ r.1) st₁ (clean_zero true false false n 7 e f) q
    (rw a (simp append_assoc), omega arith, ((num'.0, omega arith), num'.1))
step If i n st st₁ e f h ei num =
    let (d, p, q) = bind_some (pop as_com_piece st) _ st₁ h in
    let (c, p₂, q₂) = bind_some (pop as_com_piece d.1) _ st₁ q in
    let (x, p₃, q₃) = bind_some (pop as_expr_piece c.1) _ st₁ q₂ in
    let w : st ≡ comm d.0 ∷ comm c.0 ∷ expr x.0 ∷ x.1 =
    pop_com st d p ∙ ap (λ (s : Stack). comm d.0 ∷ s) (pop_com d.1 c p₂ ∙ ap (λ (s : Stack). comm c.0 ∷ s) (pop_expr c.1 x p₃)) in
    let b : size_stack st ≡ size_stack x.1 + size_expr x.0 + size c.0 + size d.0 = ap size_stack w in
    let a : spell_stack st ≡ spell_stack x.1 ++ spell_expr x.0 ++ spell c.0 ++ spell d.0 = ap spell_stack w in
    let num' = subst NumberedStack w num in
    stepped n (node 8 0 (pos 0) 0 0 0) st (comm (if i x.0 c.0 d.0) ∷ x.1) st₁ (clean_zero false false false n 8 e f) q₃
    (rw a (simp append_assoc), omega arith, ((num'.1.1.0, num'.1.0, num'.0, omega arith), num'.1.1.1))
step While i n st st₁ e f h ei num =
    let (c, p, q) = bind_some (pop as_com_piece st) _ st₁ h in
    let (x, p₂, q₂) = bind_some (pop as_expr_piece c.1) _ st₁ q in
    let w : st ≡ comm c.0 ∷ expr x.0 ∷ x.1 = pop_com st c p ∙ ap (λ (s : Stack). comm c.0 ∷ s) (pop_expr c.1 x p₂) in
    let b : size_stack st ≡ size_stack x.1 + size_expr x.0 + size c.0 = ap size_stack w in
    let a : spell_stack st ≡ spell_stack x.1 ++ spell_expr x.0 ++ spell c.0 = ap spell_stack w in
    let num' = subst NumberedStack w num in
    stepped n (node 9 0 (pos 0) 0 0 0) st (comm (while i x.0 c.0) ∷ x.1) st₁ (clean_zero false false false n 9 e f) q₂
    (rw a (simp append_assoc), omega arith, ((num'.1.0, num'.0, omega arith), num'.1.1))
step Call i n st st₁ e f h ei num =
    let (r, p, q) = bind_some (pops as_arg_piece ◌∷◌ n.a [] st) _ st₁ h in
    let (a₁, a₂, a₃, a₄, a₅) = taken args n.a st r p num in
    stepped n (node 10 n.name (pos 0) (length r.0) 0 0) st (comm (call i n.name r.0) ∷ r.1) st₁
    (clean_zero true true false n 10 e f ∙ ap (λ (a : ℕ). node 10 n.name (pos 0) a 0 0) (sym a₃)) q
    (rw a₁ (simp append_assoc), omega arith, ((a₅, ei ∙ a₂), a₄))
step Argument i n st st₁ e f h ei num =
    stepped n (node 11 n.name (pos 0) 0 0 0) st (arg (record { at = i; name = n.name }) ∷ st) st₁ (clean_zero true false false n 11 e f) h (refl, omega arith, (ei, num))
step DeclKind i n st st₁ e f h ei num =
    let (p, q) = clean true bit_of false false n 12 e f in
    stepped n (node 12 n.name (type_bit (type_of n.value)) 0 0 0) st (dec (record { at = i; name = n.name; type = type_of n.value }) ∷ st) st₁
    (p ∙ ap (λ (v : ℤ). node 12 n.name v 0 0 0) (bit_type n.value q)) h (refl, omega arith, (ei, num))
step Proc i n st st₁ e f h ei num =
    let (c, p, q) = bind_some (pop as_com_piece st) _ st₁ h in
    let w : st ≡ comm c.0 ∷ c.1 = pop_com st c p in
    let b : size_stack st ≡ size_stack c.1 + size c.0 = ap size_stack w in
    let a : spell_stack st ≡ spell_stack c.1 ++ spell c.0 = ap spell_stack w in
    let num' = subst NumberedStack w num in
    let (r, p₂, q₂) = bind_some (pops as_decl_piece ◌∷◌ n.a [] c.1) _ st₁ q in
    let (a₁, a₂, a₃, a₄, a₅) = taken decls n.a c.1 r p₂ num'.1 in
    stepped n (node 13 n.name (pos 0) (length r.0) 0 0) st (pro i n.name r.0 c.0 ∷ r.1) st₁
    (clean_zero true true false n 13 e f ∙ ap (λ (a : ℕ). node 13 n.name (pos 0) a 0 0) (sym a₃)) q₂
    (rw (a, a₁) (simp append_assoc), omega arith, ((a₅, subst (λ (k : ℕ). Numbered k c.0) a₂ num'.0, omega arith), a₄))
step Block i n st st₁ e f h ei num =
    let (c, p, q) = bind_some (pops as_com_piece ccons n.c cnil st) _ st₁ h in
    let (a₁, a₂, a₃, a₄, a₅) = taken coms n.c st c p num in
    let (r, p₂, q₂) = bind_some (pops as_proc_piece add_proc n.b pnil c.1) _ st₁ q in
    let (b₁, b₂, b₃, b₄, b₅) = taken procs n.b c.1 r p₂ a₄ in
    let (d, p₃, q₃) = bind_some (pops as_decl_piece ◌∷◌ n.a [] r.1) _ st₁ q₂ in
    let (c₁, c₂, c₃, c₄, c₅) = taken decls n.a r.1 d p₃ b₄ in
    let x : size_stack c.1 ≡ size_stack d.1 + length d.0 + size_procs r.0 = omega arith in
    stepped n (node 14 0 (pos 0) (length d.0) (how_many_procs r.0) (how_many_coms c.0)) st (comm (block i d.0 r.0 c.0) ∷ d.1) st₁
    (clean_zero false true true n 14 e f ∙ cc (c₃, b₃, a₃)) q₃ (
      rw (a₁, b₁, c₁) (simp append_assoc),
      omega arith,
      ((c₅, subst (λ (k : ℕ). NumberedProcs k r.0) c₂ b₅, subst (λ (k : ℕ). NumberedComs k c.0) x a₅, omega arith), c₄),
    )

reads : (ns : List Node) (i : ℕ) (st st₁ : Stack) → build_from i ns st ≡ Ok st₁ → i ≡ size_stack st → NumberedStack st
    → (spell_stack st₁ ≡ spell_stack st ++ ns) × NumberedStack st₁
reads [] i st st₁ h ei num = let e : st ≡ st₁ = cc in (ap spell_stack (sym e) ∙ sym (append-nil (spell_stack st)), subst NumberedStack e num)
reads (n ∷ ns) i st st₁ h ei num =
    let (st₂, p, q) = bind_ok (node_step i n st) _ st₁ h in
    let (k, r, s) = bind_ok (or_else _ (with_number n.kind)) _ st₂ p in
    let (t, u) = asked_ok (formed k n) _ _ st₂ s in
    let (a, b, c) = step k i n st st₂ (number_is n.kind k (or_else_ok _ (with_number n.kind) k r)) t (or_else_ok _ (take_pieces k i n st) st₂ u) ei num in
    let (x, y) = reads ns (suc i) st₂ st₁ q (omega arith) c in
    (x ∙ ap (λ (l : List Node). l ++ ns) a ∙ append_assoc (spell_stack st) (n ∷ []) ns, y)

only_is : (l : ℕ) (st : Stack) (c : Com) → only_com l st ≡ Ok c → st ≡ comm c ∷ []
only_is l [] c h = absurd (no_ok _ c h)
only_is l (p ∷ []) c h = ap (λ (x : Piece). x ∷ []) (is_com p c (or_else_ok _ (as_com_piece p) c h))
only_is l (p ∷ q ∷ s) c h = absurd (no_ok _ c h)

built_spells : (nodes : List Node) (c : Com) → build nodes ≡ Ok c → Spells nodes c
built_spells nodes c h =
    let (st, p, q) = bind_ok (build_from 0 nodes []) _ c h in
    let e = only_is (pred (length nodes)) st c q in
    let (x, y) = reads nodes 0 [] st p refl tt in
    (sym x ∙ ap spell_stack e, (subst NumberedStack e y).0)

pub built_exactly : (nodes : List Node) (c : Com) → (build nodes ≡ Ok c) ↔ Spells nodes c
built_exactly nodes c = (built_spells nodes c, spelled_builds nodes c)

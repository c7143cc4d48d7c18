-- Going back over stretches is taking pieces from the stack.
use Rattle.std.proofs.Common.{◌≡◌, ℕ, zero, suc, ◌+◌, ◌-◌, cond, List, [], ◌∷◌, get_or, Some, None, Option, sym, refl, ap, ◌∙◌, arith}
use Rattle.std.proofs.lemmas.Bool.{eq-eqb, ne_eqb, cond-true, cond-false}
use Rattle.language.specs.declared.tables.Node.{Node}
use Rattle.language.specs.Kinds.{with_number}
use Rattle.language.specs.Results.{◌>>?◌}
use Rattle.language.specs.Table.{Piece, Stack, pop, pops}
use Rattle.table.specs.declared.node.Sort.{Sort}
use Rattle.table.specs.Sorts.{order, sort_of, same_sort}
use Rattle.table.specs.Walk.{start_at, step_back, walk}
use Rattle.table.specs.Stretches.{node_at}
use Rattle.table.specs.Pieces.{size_piece, PieceAt, Stacked}
use Rattle.table.proofs.Frames.{piece_sort, piece_shown, Shown}

pub bind_on : {A B : Type 0} {o : Option A} {a : A} (k : A → Option B) → o ≡ Some a → (o >>? k) ≡ k a
bind_on k e = rw e refl

pub bind_off : {A B : Type 0} {o : Option A} (k : A → Option B) → o ≡ None → (o >>? k) ≡ None
bind_off k e = rw e refl

-- whether a piece is one of a sort
pub data Tells {A : Type 0} (pick : Option A) (so of : Sort) (z : ℕ) (size_a : A → ℕ) (R : A → Type 0) : Type 0 where
  tells_one : (a : A) → pick ≡ Some a → of ≡ so → R a → z ≡ size_a a → Tells pick so of z size_a R
  tells_other : pick ≡ None → (order of ≡ order so → ⊥) → Tells pick so of z size_a R

-- one sort of piece, with the lists that are made of it
pub record Family (ns : List Node) (ls : List ℕ) (A B : Type 0) : Type 1 where
  pub so : Sort
  pub pick : Piece → Option A
  pub add : A → B → B
  pub size_a : A → ℕ
  pub size_b : B → ℕ
  pub count : B → ℕ
  pub Ra : ℕ → A → Type 0
  pub RB : ℕ → B → Type 0
  pub tells : (s : ℕ) (p : Piece) → PieceAt ns ls s p → Tells (pick p) so (piece_sort p) (size_piece p) size_a (Ra s)
  pub joins : (s : ℕ) (a : A) (b : B) → Ra s a → RB (s + size_a a) b → RB s (add a b)
  pub adds : (a : A) (b : B) → size_b (add a b) ≡ size_a a + size_b b
  pub counts : (a : A) (b : B) → count (add a b) ≡ count b + 1

module _ (ns : List Node) (ls : List ℕ) {A B : Type 0} (F : Family ns ls A B) where
  pub data Pop1 (o : Option ℕ) (t : Option (A × Stack)) (e : ℕ) : Type 0 where
    stops : o ≡ None → t ≡ None → Pop1 o t e
    goes : (a : A) (s : ℕ) (st : Stack) → o ≡ Some s → t ≡ Some (a, st) → F.Ra s a → e ≡ s + F.size_a a → Stacked ns ls s st → Pop1 o t e

  pub data PopN (o : Option ℕ) (t : Option (B × Stack)) (e n : ℕ) : Type 0 where
    stops_n : o ≡ None → t ≡ None → PopN o t e n
    goes_n : (b : B) (s : ℕ) (st : Stack) → o ≡ Some s → t ≡ Some (b, st) → F.RB s b → s + F.size_b b ≡ e → F.count b ≡ n → Stacked ns ls s st → PopN o t e n

  -- the step is over a node of this kind
  over : (e : ℕ) (p : Piece) (s : ℕ) → e ≡ s + size_piece p → (h : Shown ns ls s (size_piece p) (piece_sort p))
      → step_back ns ls F.so e ≡ cond (same_sort (sort_of h.of) F.so) (Some (start_at ls (e - 1))) None
  over e p s q h =
      let i : e - 1 ≡ s + size_piece p - 1 = omega arith in
      let k : with_number (node_at ns (e - 1)).kind ≡ Some h.of = rw i h.kind in
      cond-false _ _ _ (ne_eqb e 0 (λ z. omega (arith, h.some)))
      ∙ bind_on (λ k. cond (same_sort (sort_of k) F.so) (Some (start_at ls (e - 1))) None) k

  step_off : (e : ℕ) (p : Piece) (s : ℕ) → e ≡ s + size_piece p → PieceAt ns ls s p → (order (piece_sort p) ≡ order F.so → ⊥)
      → step_back ns ls F.so e ≡ None
  step_off e p s q at ne =
      let h = piece_shown ns ls p s at in
      over e p s q h ∙ cond-false _ _ _ (ne_eqb _ _ (λ z. ne (ap order (sym h.sort) ∙ z)))

  step_on : (e : ℕ) (p : Piece) (s : ℕ) → e ≡ s + size_piece p → PieceAt ns ls s p → piece_sort p ≡ F.so → step_back ns ls F.so e ≡ Some s
  step_on e p s q at same =
      let h = piece_shown ns ls p s at in
      let i : e - 1 ≡ s + size_piece p - 1 = omega arith in
      let l : get_or ls (e - 1) 0 ≡ size_piece p = rw i h.len in
      let z : start_at ls (e - 1) ≡ s = omega (arith, h.some) in
      over e p s q h ∙ cond-true _ _ _ (eq-eqb _ _ (ap order (h.sort ∙ same))) ∙ ap Some z

  pub pop1 : (e : ℕ) (st : Stack) → Stacked ns ls e st → Pop1 (step_back ns ls F.so e) (pop F.pick st) e
  pop1 e [] h = stops (cond-true _ _ _ (eq-eqb e 0 h)) refl
  pop1 e (p ∷ st) (s, q, at, rest) = go (F.tells s p at)
    where
      go : Tells (F.pick p) F.so (piece_sort p) (size_piece p) F.size_a (F.Ra s) → Pop1 (step_back ns ls F.so e) (pop F.pick (p ∷ st)) e
      go (tells_one a is same ra z) = goes a s st (step_on e p s q at same) (rw (is, pop)) ra (omega arith) rest
      go (tells_other is ne) = stops (step_off e p s q at ne) (rw (is, pop))

  pub popn : (n : ℕ) (e : ℕ) (st : Stack) (b : B) (e0 m : ℕ) → Stacked ns ls e st → F.RB e b → e + F.size_b b ≡ e0 → n + F.count b ≡ m
      → PopN (walk ns ls F.so n e) (pops F.pick F.add n b st) e0 m
  unfolding walk
  popn zero e st b e0 m h r q c = goes_n b e st refl refl r q (omega arith) h
  popn (suc n) e st b e0 m h r q c = go (pop1 e st h) (λ e₁ st₁ b₁ h₁ r₁ q₁ c₁. popn n e₁ st₁ b₁ e0 m h₁ r₁ q₁ c₁)
    where
      go : Pop1 (step_back ns ls F.so e) (pop F.pick st) e
          → ((e₁ : ℕ) (st₁ : Stack) (b₁ : B) → Stacked ns ls e₁ st₁ → F.RB e₁ b₁ → e₁ + F.size_b b₁ ≡ e0 → n + F.count b₁ ≡ m → PopN (walk ns ls F.so n e₁) (pops F.pick F.add n b₁ st₁) e0 m)
          → PopN (walk ns ls F.so (suc n) e) (pops F.pick F.add (suc n) b st) e0 m
      go (stops o t) k = stops_n (rw o refl) (rw t refl)
      go (goes a s st₁ o t ra z h₁) k =
          rw (o, t)
          (k s st₁ (F.add a b) h₁ (F.joins s a b ra (rw (sym z) r)) (omega (arith, F.adds a b)) (omega (arith, F.counts a b)))

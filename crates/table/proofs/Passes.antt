-- Reading a table: what holds from node to node, and at the end.
use Rattle.std.proofs.Common.{◌≡◌, ℕ, pred, ◌+◌, ◌-◌, ◌<◌, ◌≤◌, Bool, true, false, eqb, List, [], ◌∷◌, length, get_or, drop, set, Some, None, Ok, Err, Option, Result, sym, refl, ap, ◌∙◌, subst, add-one, sub-one, arith, below_more}
use Rattle.std.proofs.lemmas.List.{at_drop_more, at_drop_all, get_or-set_same, get_or-set_other, drop-set-lt}
use Rattle.std.proofs.lemmas.Bool.{eq-eqb, ne_eqb, lt-ltb, le-leb}
use Rattle.language.specs.declared.tables.Node.{Node}
use Rattle.language.specs.declared.tables.Kind.{Kind}
use Rattle.language.specs.declared.faults.Fault.{Fault}
use Rattle.language.specs.declared.faults.TableCause.TheVariants.{Kind as KindCause, Fields, Pieces, Whole as WholeCause}
use Rattle.language.specs.Kinds.{with_number}
use Rattle.language.specs.Results.{◌>>=◌, asked, or_else}
use Rattle.language.specs.Tree.{Com}
use Rattle.language.specs.Table.{expr, comm, arg, dec, pro, Stack, formed, as_com_piece, pop, take_pieces, refusal, node_step, build_from, only_com, build}
use Rattle.language.specs.Spelling.{size}
use Rattle.table.specs.declared.node.Sort.TheVariants.{Command}
use Rattle.table.specs.Walk.{Short, step_back, start_of, stretch_of, whole_of}
use Rattle.table.specs.Stretches.{blank, node_at, ComAt}
use Rattle.table.specs.Pieces.{size_piece, Stacked}
use Rattle.table.specs.Measured.{measured, Noted}
use Rattle.table.proofs.Frames.{Alike, stack_frame, piece_some}
use Rattle.table.proofs.Pops.{Pop1, stops, goes, pop1}
use Rattle.table.proofs.Nodes.{coms, Stepped, halts, moves, steps}

alike_set : (ls : List ℕ) (i z e : ℕ) → e ≤ i → Alike ls (set ls i z) e
alike_set ls i z e le k lt = sym (get_or-set_other ls i k z 0 (λ q. omega arith))

bound : {E A B : Type 0} (m : Result A E) (k : A → Result B E) (a : A) → m ≡ Ok a → (m >>= k) ≡ k a
bound m k a e = rw e refl

unbound : {E A B : Type 0} (m : Result A E) (k : A → Result B E) (f : E) → m ≡ Err f → (m >>= k) ≡ Err f
unbound m k f e = rw e refl

not_both : {E A X : Type 0} (a : A) (f : E) → ◌≡◌ {A = Result A E} (Ok a) (Err f) → X
not_both a f q = let y : ◌≡◌ {A = ℕ} 0 1 = cc in absurd (omega arith)

module _ (ns : List Node) (ls : List ℕ) (i : ℕ) where
  -- the length that the code finds, beside the stack of the definition
  data Fit (r : Result ℕ Fault) (t : Result Stack Fault) : Type 0 where
    refuses : (f : Fault) → r ≡ Err f → t ≡ Err f → Fit r t
    fits : (z : ℕ) (st : Stack) → r ≡ Ok z → t ≡ Ok st → Stacked ns (set ls i z) (i + 1) st → Fit r t

  fitted : i < length ls → (b : Bool) (o : Option ℕ) (t : Option Stack) → Stepped ns ls i o t
      → Fit (asked b (refusal Fields i) >>= λ _. or_else (refusal Pieces i) o >>= λ s. Ok (i + 1 - s))
      (asked b (refusal Fields i) >>= λ _. or_else (refusal Pieces i) t)
  fitted lt false o t s = refuses (refusal Fields i) refl refl
  fitted lt true o t (halts p q) = refuses (refusal Pieces i) (rw p refl) (rw q refl)
  fitted lt true o t (moves s p st po qt z at h) =
      let y : i + 1 - s ≡ size_piece p = omega arith in
      fits (i + 1 - s) (p ∷ st) (rw po refl) (rw qt refl) (
        s,
        z,
        at (set ls i (i + 1 - s)) (alike_set ls i _ i (omega arith)) (get_or-set_same ls i (i + 1 - s) 0 lt ∙ y),
        stack_frame ns ls (set ls i (i + 1 - s)) st s (alike_set ls i _ s (omega (arith, piece_some p))) h,
      )

  node_fits : (st : Stack) → i < length ls → Stacked ns ls i st → Fit (stretch_of ns ls i) (node_step i (node_at ns i) st)
  node_fits st lt h = go (with_number (node_at ns i).kind) refl
    where
      go : (o : Option Kind) → with_number (node_at ns i).kind ≡ o
          → Fit (or_else (refusal KindCause i) o >>= λ k. asked (formed k (node_at ns i)) (refusal Fields i) >>= λ _.
          or_else (refusal Pieces i) (start_of k (node_at ns i) ns ls i) >>= λ s. Ok (i + 1 - s))
          (or_else (refusal KindCause i) o >>= λ k. asked (formed k (node_at ns i)) (refusal Fields i) >>= λ _.
          or_else (refusal Pieces i) (take_pieces k i (node_at ns i) st))
      go None q = refuses (refusal KindCause i) refl refl
      go (Some k) q = fitted lt (formed k (node_at ns i)) _ _ (steps ns ls i k q st h)

  short_set : (z : ℕ) → i < length ls → z ≤ i + 1 → Short ls i → Short (set ls i z) (i + 1)
  short_set z lt le sh =
      below_more (λ k. get_or (set ls i z) k 0 ≤ k + 1) i
      (λ k h. rw (get_or-set_other ls i k z 0 (λ q. omega arith)) (sh k h))
      (rw (get_or-set_same ls i z 0 lt) le)

  pub again : (ls₀ : List ℕ) (st : Stack) (z : ℕ) → i < length ns → i < length ls → Stacked ns ls i st
      → build_from i (drop i ns) st ≡ build_from 0 ns [] → Short ls i → drop (length ns) ls ≡ drop (length ns) ls₀
      → Ok z ≡ stretch_of ns ls i → z ≤ i + 1
      → (st₁ : Stack) × Stacked ns (set ls i z) (i + 1) st₁ × (build_from (i + 1) (drop (i + 1) ns) st₁ ≡ build_from 0 ns []) × Short (set ls i z) (i + 1)
      × (drop (length ns) (set ls i z) ≡ drop (length ns) ls₀)
  again ls₀ st z ln lt h b sh d is le = go (node_fits st lt h)
    where
      go : Fit (stretch_of ns ls i) (node_step i (node_at ns i) st)
          → (st₁ : Stack) × Stacked ns (set ls i z) (i + 1) st₁ × (build_from (i + 1) (drop (i + 1) ns) st₁ ≡ build_from 0 ns []) × Short (set ls i z) (i + 1)
          × (drop (length ns) (set ls i z) ≡ drop (length ns) ls₀)
      go (refuses f r t) = not_both z f (is ∙ r)
      go (fits y st₁ r t hs) =
          let q : Ok z ≡ Ok y = is ∙ r in
          let yz : y ≡ z = cc in (
            st₁,
            subst (λ (x : ℕ). Stacked ns (set ls i x) (i + 1) st₁) yz hs,
            rw add-one (sym (at_drop_more (λ l. build_from i l st) ns i blank ln ∙ rw add-one (bound (node_step i (node_at ns i) st) _ st₁ t)) ∙ b),
            short_set z lt le sh,
            drop-set-lt (length ns) ls i z ln ∙ d,
          )

  pub stopped : (st : Stack) (f : Fault) → i < length ns → i < length ls → Stacked ns ls i st
      → build_from i (drop i ns) st ≡ build_from 0 ns [] → Err f ≡ stretch_of ns ls i → build ns ≡ Err f
  stopped st f ln lt h b is = go (node_fits st lt h)
    where
      go : Fit (stretch_of ns ls i) (node_step i (node_at ns i) st) → build ns ≡ Err f
      go (refuses g r t) =
          let q : Err f ≡ Err g = is ∙ r in
          let e : g ≡ f = cc in
          let x : build_from 0 ns [] ≡ Err g = sym b ∙ at_drop_more (λ l. build_from i l st) ns i blank ln ∙ unbound (node_step i (node_at ns i) st) _ g t in
          unbound (build_from 0 ns []) _ g x ∙ ap Err e
      go (fits y st₁ r t hs) = not_both y f (sym (is ∙ r))

-- past the first two questions, the table alone decides
judged : (ns : List Node) (room : ℕ) → 0 < length ns → length ns ≤ room → (build ns >>= λ _. Ok tt) ≡ measured ns room
judged ns room some le = rw (lt-ltb 0 (length ns) some, le-leb (length ns) room le) refl

pub refused : (ns : List Node) (ls : List ℕ) (i room : ℕ) (st : Stack) (r : Result (Unit {0}) Fault) (f : Fault)
    → r ≡ Err f → i < length ns → i < length ls → length ns ≤ room → Stacked ns ls i st
    → build_from i (drop i ns) st ≡ build_from 0 ns [] → Err f ≡ stretch_of ns ls i → (r ≡ measured ns room) × Noted ns ls r
refused ns ls i room st r f e ln lt le h b is =
    rw e (sym (unbound (build ns) (λ _. Ok tt) f (stopped ns ls i st f ln lt h b is)) ∙ judged ns room (omega arith) le, tt)

no_com : (last : ℕ) (st : Stack) → pop as_com_piece st ≡ None → only_com last st ≡ Err (refusal WholeCause last)
no_com last [] h = refl
no_com last (expr e ∷ []) h = refl
no_com last (comm c ∷ []) h = let y : ◌≡◌ {A = ℕ} 0 1 = cc in absurd (omega arith)
no_com last (arg x ∷ []) h = refl
no_com last (dec d ∷ []) h = refl
no_com last (pro i m fs c ∷ []) h = refl
no_com last (p ∷ q ∷ st) h = refl

one_com : (st : Stack) (r : Com × Stack) → pop as_com_piece st ≡ Some r → st ≡ comm r.0 ∷ r.1
one_com [] r h = cc
one_com (expr e ∷ st) r h = cc
one_com (comm d ∷ st) r h = let x : d ≡ r.0 = cc in let y : st ≡ r.1 = cc in cc
one_com (arg x ∷ st) r h = cc
one_com (dec d ∷ st) r h = cc
one_com (pro i m fs d ∷ st) r h = cc

module _ (ns : List Node) (ls : List ℕ) where
  data Last (r : Result (Unit {0}) Fault) (t : Result Com Fault) : Type 0 where
    more : (f : Fault) → r ≡ Err f → t ≡ Err f → Last r t
    one : (c : Com) → r ≡ Ok tt → t ≡ Ok c → ComAt ns ls 0 0 c → size c ≡ length ns → Last r t

  lasts : (F : Fault) (c : Com) (s : ℕ) (st : Stack) → F ≡ refusal WholeCause (pred (length ns)) → ComAt ns ls 0 s c → length ns ≡ s + size c → Stacked ns ls s st
      → Last (asked (eqb s 0) F) (only_com (pred (length ns)) (comm c ∷ st))
  lasts F c s [] f at e h =
      one c (rw (eq-eqb s 0 h) refl) refl (subst (λ (x : ℕ). ComAt ns ls 0 x c) h at) (omega arith)
  lasts F c s (p ∷ st) f at e (s₁, q, at₁, rest) =
      more F (rw (ne_eqb s 0 (λ z. omega (arith, piece_some p))) refl) (ap Err (sym f))

  lasting : (st : Stack) → Stacked ns ls (length ns) st → Last (whole_of ns ls) (only_com (pred (length ns)) st)
  lasting st h = go (pop1 ns ls (coms ns ls) (length ns) st h)
    where
      go : Pop1 ns ls (coms ns ls) (step_back ns ls Command (length ns)) (pop as_com_piece st) (length ns) → Last (whole_of ns ls) (only_com (pred (length ns)) st)
      go (stops o t) = more (refusal WholeCause (length ns - 1)) (rw o refl) (rw sub-one (no_com (pred (length ns)) st t))
      go (goes c s st₁ o t at e h₁) =
          rw (o, one_com st (c, st₁) t) (lasts (refusal WholeCause (length ns - 1)) c s st₁ (rw sub-one refl) at e h₁)

  pub finished : (st : Stack) (i room : ℕ) (r : Result (Unit {0}) Fault) → 0 < length ns → length ns ≤ room → length ns ≤ i → i ≤ length ns → Stacked ns ls i st
      → build_from i (drop i ns) st ≡ build_from 0 ns [] → r ≡ whole_of ns ls → (r ≡ measured ns room) × Noted ns ls r
  finished st i room r some le hi lo h b e =
      let q : i ≡ length ns = omega arith in
      let g : Ok st ≡ build_from 0 ns [] = sym (at_drop_all (λ l. build_from i l st) ns i hi) ∙ b in
      let w : build ns ≡ only_com (pred (length ns)) st = bound (build_from 0 ns []) (λ s. only_com (pred (length ns)) s) st (sym g) in
      go w (lasting st (subst (λ (x : ℕ). Stacked ns ls x st) q h))
    where
      go : build ns ≡ only_com (pred (length ns)) st → Last (whole_of ns ls) (only_com (pred (length ns)) st) → (r ≡ measured ns room) × Noted ns ls r
      go w (more f x y) = rw (e ∙ x) (sym (unbound (build ns) (λ _. Ok tt) f (w ∙ y)) ∙ judged ns room some le, tt)
      go w (one c x y at z) =
          rw (e ∙ x) (sym (bound (build ns) (λ _. Ok tt) c (w ∙ y)) ∙ judged ns room some le, record { rule = c; built = w ∙ y; stands = at; whole = z })

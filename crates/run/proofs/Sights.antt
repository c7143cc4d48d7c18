-- What is seen from a position, step by step, and which records it depends on.
use Rattle.std.proofs.Common.{◌≡◌, ℕ, zero, suc, ◌+◌, ◌-◌, ◌<◌, ◌≤◌, Bool, true, false, eqb, ◌≢◌, List, [], ◌∷◌, length, get_or, set, Some, None, sym, refl, ap, ◌∙◌, add-one, arith, length-append, get_or-set_other, get_or-set_same, eqb-true}
use borrow.Author.Tests.{eqb-false}
use Rattle.std.specs.List.{slice_get}
use Rattle.language.specs.declared.tables.Node.{Node}
use Rattle.language.specs.Same.{same}
use Rattle.language.specs.Sight.{look}
use Rattle.language.specs.Runs.{Env}
use Rattle.scope.specs.declared.Record.{Record}
use Rattle.scope.specs.Sight.{in_sight, Down}
use Rattle.scope.specs.Calls.{entered}
use Rattle.scope.proofs.Chains.{sight_step, sight_alike, look_here, look_on, look_none, latest_at}
use Rattle.run.specs.declared.bindings.Binding.{Binding}
use Rattle.run.specs.declared.bindings.Binding.TheVariants.{Place, Procedure}
use Rattle.run.specs.Names.{Records, record_at, walk, found, Linked, SameBelow, locations_from, no_record, weights, weigh_in, weight}
use Rattle.run.specs.Shapes.{Forest}
use Rattle.run.specs.Machine.{env_at, env_in, bound_of}
use Rattle.run.proofs.Walks.{walk_more, walk_step, walk_same}

-- a record that is there
get_is : (rs : Records) (k : ℕ) → k < length rs → slice_get rs k ≡ Some (record_at rs k)
get_is [] k h = absurd (omega arith)
get_is (r ∷ rs) zero h = refl
get_is (r ∷ rs) (suc k) h = get_is rs k (omega arith)

pub linked_down : (rs : Records) (top : ℕ) → top ≤ length rs → Down rs top → Linked rs top
linked_down rs top h d k lt = d k (record_at rs k) lt (get_is rs k (omega arith))

-- what is in sight from a position is its record and then what that is linked to
sight_at : (rs : Records) (p : ℕ) → 0 < p → p ≤ length rs → (record_at rs (p - 1)).next ≤ p - 1
    → in_sight rs p ≡ ((record_at rs (p - 1)).name, (record_at rs (p - 1)).entry) ∷ in_sight rs (record_at rs (p - 1)).next
sight_at rs p h n l =
    let e : p - 1 + 1 ≡ p = omega arith in
    let s = sight_step rs (p - 1) (record_at rs (p - 1)) (get_is rs (p - 1) (omega arith)) l in
    rw e at s

pub found_here : (rs : Records) (p m : ℕ) → 0 < p → p ≤ length rs → (record_at rs (p - 1)).next ≤ p - 1 → same m (record_at rs (p - 1)).name ≡ true
    → found rs p m ≡ Some (record_at rs (p - 1)).entry
found_here rs p m h n l e = look_here m _ _ (in_sight rs p) (same m (record_at rs (p - 1)).name) (sight_at rs p h n l) refl e

pub found_on : (rs : Records) (p m : ℕ) → 0 < p → p ≤ length rs → (record_at rs (p - 1)).next ≤ p - 1 → same m (record_at rs (p - 1)).name ≡ false
    → found rs p m ≡ found rs (record_at rs (p - 1)).next m
found_on rs p m h n l e = look_on m _ _ (in_sight rs p) (same m (record_at rs (p - 1)).name) (sight_at rs p h n l) refl e

pub found_none : (rs : Records) (p m : ℕ) → p ≤ 0 → found rs p m ≡ None
found_none rs p m h = look_none m rs p h

pub same_place : {l k : ℕ} → Some (Place l) ≡ Some (Place k) → l ≡ k
same_place e = cc

-- what is recorded at a position
pub entered_at : (rs : Records) (top k : ℕ) → k < top → top ≤ length rs → Down rs top → entered rs top (k + 1) ≡ Some (record_at rs k).entry
entered_at rs top k lt h d =
    let e : k + 1 - 1 ≡ k = omega arith in
    let r : record_at rs k ≡ get_or rs (k + 1 - 1) (record_at rs k) = rw e (get_or_is rs k (omega arith)) in
    latest_at rs (k + 1) top (record_at rs k) (omega arith) (omega arith) h d r
  where
    get_or_is : (xs : Records) (j : ℕ) → j < length xs → record_at xs j ≡ get_or xs j (record_at xs j)
    get_or_is [] j l = absurd (omega arith)
    get_or_is (x ∷ xs) zero l = refl
    get_or_is (x ∷ xs) (suc j) l = get_or_is xs j (omega arith)

pub weights_step : (ls : List ℕ) (rs : Records) (p : ℕ) → 0 < p → (record_at rs (p - 1)).next ≤ p - 1
    → weights ls rs p ≡ weight ls (record_at rs (p - 1)).entry + weights ls rs (record_at rs (p - 1)).next
weights_step ls rs p h l =
    walk_step 0 (weigh_in ls rs) p h ∙ ap (λ (n : ℕ). weight ls (record_at rs (p - 1)).entry + n) (walk_more 0 (weigh_in ls rs) (p - 1) (record_at rs (p - 1)).next l)

-- a bound needs only what a procedure's body sees
pub bound_on : (L : ℕ) (ns : List Node) (ls : List ℕ) (F : Forest) (on on' : ℕ → Env) (w : Binding) → ((i p : ℕ) → w ≡ Procedure i p → on p ≡ on' p)
    → bound_of L ns ls F on w ≡ bound_of L ns ls F on' w
bound_on L ns ls F on on' (Place l) h = refl
bound_on L ns ls F on on' (Procedure i p) h = rw (h i p refl) refl

pub env_step : (L : ℕ) (ns : List Node) (ls : List ℕ) (F : Forest) (rs : Records) (p : ℕ) → 0 < p → (record_at rs (p - 1)).next ≤ p - 1
    → ((i q : ℕ) → (record_at rs (p - 1)).entry ≡ Procedure i q → q ≤ p - 1)
    → env_at L ns ls F rs p ≡ ((record_at rs (p - 1)).name, bound_of L ns ls F (env_at L ns ls F rs) (record_at rs (p - 1)).entry) ∷ env_at L ns ls F rs (record_at rs (p - 1)).next
env_step L ns ls F rs p h l s =
    let f = env_in L ns ls F rs in
    walk_step [] f p h
    ∙ rw (walk_more [] f (p - 1) (record_at rs (p - 1)).next l, bound_on L ns ls F (walk [] f (p - 1)) (env_at L ns ls F rs) (record_at rs (p - 1)).entry (λ i q e. walk_more [] f (p - 1) q (s i q e))) refl

-- the records below a mark are as they were
pub found_same : (rs rs' : Records) (m p x : ℕ) → SameBelow rs rs' m → p ≤ m → m ≤ length rs → length rs' ≡ length rs → found rs' p x ≡ found rs p x
found_same rs rs' m p x q h n e =
    ap (look x) (sight_alike rs' rs p (λ i lt. get_is rs' i (omega arith) ∙ ap Some (q i (omega arith)) ∙ sym (get_is rs i (omega arith))))

pub weights_same : (ls : List ℕ) (rs rs' : Records) (m p : ℕ) → SameBelow rs rs' m → p ≤ m → weights ls rs' p ≡ weights ls rs p
weights_same ls rs rs' m p q h = walk_same 0 (weigh_in ls rs') (weigh_in ls rs) m p p (λ k lt on. rw (q k lt) refl) h

pub env_same : (L : ℕ) (ns : List Node) (ls : List ℕ) (F : Forest) (rs rs' : Records) (m p : ℕ) → SameBelow rs rs' m → p ≤ m → env_at L ns ls F rs' p ≡ env_at L ns ls F rs p
env_same L ns ls F rs rs' m p q h = walk_same [] (env_in L ns ls F rs') (env_in L ns ls F rs) m p p (λ k lt on. rw (q k lt) refl) h

pub locations_same : (rs rs' : Records) (m s n : ℕ) → SameBelow rs rs' m → s + n ≤ m → locations_from rs' s n ≡ locations_from rs s n
unfolding locations_from
locations_same rs rs' m s zero q h = refl
locations_same rs rs' m s (suc n) q h =
    let le : s + n ≤ m = omega arith in
    let lt : s + n < m = omega arith in
    rw (q (s + n) lt, locations_same rs rs' m s n q le)

pub linked_same : (rs rs' : Records) (m n : ℕ) → SameBelow rs rs' m → n ≤ m → Linked rs n → Linked rs' n
linked_same rs rs' m n q h l k lt = let lt' : k < m = omega arith in rw (q k lt') (l k lt)

pub same_set : (rs : Records) (k : ℕ) (r : Record Binding) (m : ℕ) → m ≤ k → SameBelow rs (set rs k r) m
same_set rs k r m h j lt = let ne : j ≢ k = omega arith in get_or-set_other rs k j r no_record ne

pub same_then : (rs rs' rs'' : Records) (m : ℕ) → SameBelow rs rs' m → SameBelow rs' rs'' m → SameBelow rs rs'' m
same_then rs rs' rs'' m p q j lt = q j lt ∙ p j lt

pub same_less : (rs rs' : Records) (m n : ℕ) → n ≤ m → SameBelow rs rs' m → SameBelow rs rs' n
same_less rs rs' m n h q k lt = q k (omega arith)

pub length_locations : (rs : Records) (s n : ℕ) → length (locations_from rs s n) ≡ n
unfolding locations_from
length_locations rs s zero = refl
length_locations rs s (suc n) = rw (length-append, length_locations rs s n, add-one) refl

pub linked_push : (rs : Records) (k : ℕ) (r : Record Binding) → k < length rs → r.next ≤ k → Linked rs k → Linked (set rs k r) (k + 1)
linked_push rs k r h q l j lt = go (eqb j k) refl
  where
    go : (b : Bool) → eqb j k ≡ b → (record_at (set rs k r) j).next ≤ j
    go true e =
        let same : j ≡ k = eqb-true j k e in
        let g : record_at (set rs k r) k ≡ r = get_or-set_same rs k r no_record h in
        rw (same, g) q
    go false e =
        let ne : j ≢ k = eqb-false j k e in
        let g : record_at (set rs k r) j ≡ record_at rs j = get_or-set_other rs k j r no_record ne in
        let lt' : j < k = omega arith in
        rw g (l j lt')

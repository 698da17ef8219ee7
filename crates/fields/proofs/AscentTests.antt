-- The test for ascent decides it, and it holds exactly if neighbours ascend.
use Rattle.std.proofs.Common.{◌≡◌, ℕ, zero, suc, ◌+◌, ◌<◌, Bool, true, false, ltb, ⊎_elim, List, [], ◌∷◌, length, get_or, Decides, refl, sym, subst, le_of_suc-le-suc, not-suc-le-zero, arith}
use Rattle.std.specs.List.{AllAdjacentBelow, IsAllAdjacentAnswer}
use Rattle.std.proofs.lemmas.Bool.{ltb-true, lt-ltb, and_parts, and_from, cases_Bool, both_ways}
use Rattle.fields.specs.Ascent.{ascending_from, ascending, Ascending}

above : (n : ℕ) (ms : List ℕ) → ascending_from n ms ≡ true → (j : ℕ) → j < length ms → n < get_or ms j 0
above n [] e j h = absurd (not-suc-le-zero h)
above n (m ∷ ms) e zero h = ltb-true n m (and_parts (ltb n m) _ e).0
above n (m ∷ ms) e (suc j) h =
    let p = and_parts (ltb n m) _ e in
    let a = ltb-true n m p.0 in
    let b = above m ms p.1 j (le_of_suc-le-suc h) in
    omega arith

sound : (n : ℕ) (ms : List ℕ) → ascending_from n ms ≡ true → Ascending (n ∷ ms)
sound n ms e i zero l h = absurd (not-suc-le-zero l)
sound n ms e zero (suc j) l h = above n ms e j (le_of_suc-le-suc h)
sound n [] e (suc i) (suc j) l h = absurd (not-suc-le-zero (le_of_suc-le-suc h))
sound n (m ∷ ms) e (suc i) (suc j) l h = sound m ms (and_parts (ltb n m) _ e).1 i j (le_of_suc-le-suc l) (le_of_suc-le-suc h)

complete : (n : ℕ) (ms : List ℕ) → Ascending (n ∷ ms) → ascending_from n ms ≡ true
complete n [] a = refl
complete n (m ∷ ms) a =
    and_from (ltb n m) _ (lt-ltb n m (a 0 1 (omega arith) (omega arith)))
    (complete m ms (λ i j l h. a (suc i) (suc j) (omega arith) (omega arith)))

pub ascending_decides : (ns : List ℕ) → Decides (ascending ns) (Ascending ns)
ascending_decides [] = (λ _ i j l h. absurd (not-suc-le-zero h), λ _. refl)
ascending_decides (n ∷ ns) = (sound n ns, complete n ns)

-- neighbours that ascend, and neighbours that do not
neighbours : (n : ℕ) (ms : List ℕ) → AllAdjacentBelow (λ x y. true ≡ ltb x y) (n ∷ ms) (length (n ∷ ms)) → ascending_from n ms ≡ true
neighbours n [] a = refl
neighbours n (m ∷ ms) a =
    and_from (ltb n m) _ (sym (a 0 0 (omega arith)))
    (neighbours m ms
    (λ k d h.
    let next : suc k + 1 ≡ suc (k + 1) = omega arith in
    subst (λ i. true ≡ ltb (get_or (n ∷ m ∷ ms) (suc k) d) (get_or (n ∷ m ∷ ms) i d)) next (a (suc k) d (omega arith))))

falls : (ns : List ℕ) (k : ℕ) → k + 1 < length ns → ltb (get_or ns k 0) (get_or ns (k + 1) 0) ≡ false → ascending ns ≡ true → ⊥
falls ns k h e t = both_ways _ e (lt-ltb _ _ ((ascending_decides ns).0 t k (k + 1) (omega arith) h))

pub ascending_by_neighbours : (ns : List ℕ) (r : Bool) → IsAllAdjacentAnswer (λ x y b. b ≡ ltb x y) ns r → r ≡ ascending ns
ascending_by_neighbours [] true a = refl
ascending_by_neighbours [] false a = absurd (omega (arith, a.1))
ascending_by_neighbours (n ∷ ns) true a = sym (neighbours n ns a)
ascending_by_neighbours (n ∷ ns) false a =
    ⊎_elim (λ t. absurd (falls (n ∷ ns) a.0 a.1 (sym (a.2 0)) t)) sym (cases_Bool (ascending (n ∷ ns)))

-- Numbers and their bytes: what is written is read back, and what is read would be written so.
use Rattle.std.proofs.Common.{◌≡◌, ℕ, ◌+◌, ◌*◌, ◌/◌, ◌%◌, ◌<◌, ◌≤◌, List, [], ◌∷◌, ◌++◌, length, drop, ℤ, pos, negsuc, sym, ap, ◌∙◌, add_assoc, arith, w32, SFits, to_z, of_z}
use Rattle.std.proofs.ByRecursion.{All-get_or}
use Rattle.std.proofs.lemmas.List.{get_or-drop, drop_more}
use Rattle.std.proofs.lemmas.Int.{to_z-of_z, of_z-to_z}
use Rattle.format.specs.Format.{Bytes}
use Rattle.commands.specs.Numbers.{byte, word, long, huge, signed}
use Rattle.format.specs.WellFormed.{Value}
use Rattle.format.specs.Written.{word_bytes, long_bytes, huge_bytes}

-- a number from its bytes
pub word_of : (n : ℕ) → 256 * (n / 256) + n % 256 ≡ n
word_of n = omega arith

pub long_of : (n : ℕ) → 65536 * (n / 65536) + n % 65536 ≡ n
long_of n = omega arith

pub huge_of : (n : ℕ) → 4294967296 * (n / 4294967296) + n % 4294967296 ≡ n
huge_of n = omega arith

-- a number further on
pub word_drop : (xs : List ℕ) (k i : ℕ) → word xs (k + i) ≡ word (drop k xs) i
word_drop xs k i = simp (get_or-drop, add_assoc)

pub long_drop : (xs : List ℕ) (k i : ℕ) → long xs (k + i) ≡ long (drop k xs) i
long_drop xs k i = simp (get_or-drop, add_assoc)

-- numbers of so many bytes are below a power
pub byte_below : (xs : List ℕ) (b : Bytes xs) (i : ℕ) → i + 1 ≤ length xs → byte xs i < 256
byte_below xs b i h = All-get_or (λ x. x < 256) xs i 0 (omega arith) b

pub word_below : (xs : List ℕ) (b : Bytes xs) (i : ℕ) → i + 2 ≤ length xs → word xs i < 65536
word_below xs b i h =
    let x = byte_below xs b i (omega arith) in
    let y = byte_below xs b (i + 1) (omega arith) in
    omega arith

pub long_below : (xs : List ℕ) (b : Bytes xs) (i : ℕ) → i + 4 ≤ length xs → long xs i < 4294967296
long_below xs b i h =
    let x = word_below xs b i (omega arith) in
    let y = word_below xs b (i + 2) (omega arith) in
    omega arith

-- the bytes of a number that is read are those that stand there
pub byte_at : (xs : List ℕ) (i : ℕ) → i + 1 ≤ length xs → byte xs i ∷ drop (i + 1) xs ≡ drop i xs
byte_at xs i h = sym (drop_more xs i 0 (omega arith))

-- two parts, one behind the other
pub joint : (xs front back : List ℕ) (i j k : ℕ) → front ++ drop (i + j) xs ≡ drop i xs → back ++ drop (i + j + k) xs ≡ drop (i + j) xs → front ++ (back ++ drop (i + (j + k)) xs) ≡ drop i xs
joint xs front back i j k p q = ap (λ n. front ++ (back ++ drop n xs)) (sym (add_assoc i j k)) ∙ ap (λ ys. front ++ ys) q ∙ p

pub word_at : (xs : List ℕ) (b : Bytes xs) (i : ℕ) → i + 2 ≤ length xs → word_bytes (word xs i) ++ drop (i + 2) xs ≡ drop i xs
word_at xs b i h =
    let x = byte_below xs b i (omega arith) in
    let y = byte_below xs b (i + 1) (omega arith) in
    let q : word xs i / 256 ≡ byte xs i = omega arith in
    let r : word xs i % 256 ≡ byte xs (i + 1) = omega arith in
    rw (q, r) (joint xs (byte xs i ∷ []) (byte xs (i + 1) ∷ []) i 1 1 (byte_at xs i (omega arith)) (byte_at xs (i + 1) (omega arith)))

pub long_at : (xs : List ℕ) (b : Bytes xs) (i : ℕ) → i + 4 ≤ length xs → long_bytes (long xs i) ++ drop (i + 4) xs ≡ drop i xs
long_at xs b i h =
    let x = word_below xs b i (omega arith) in
    let y = word_below xs b (i + 2) (omega arith) in
    let q : long xs i / 65536 ≡ word xs i = omega arith in
    let r : long xs i % 65536 ≡ word xs (i + 2) = omega arith in
    rw (q, r) (joint xs (word_bytes (word xs i)) (word_bytes (word xs (i + 2))) i 2 2 (word_at xs b i (omega arith)) (word_at xs b (i + 2) (omega arith)))

pub huge_at : (xs : List ℕ) (b : Bytes xs) (i : ℕ) → i + 8 ≤ length xs → huge_bytes (huge xs i) ++ drop (i + 8) xs ≡ drop i xs
huge_at xs b i h =
    let x = long_below xs b i (omega arith) in
    let y = long_below xs b (i + 4) (omega arith) in
    let q : huge xs i / 4294967296 ≡ long xs i = omega arith in
    let r : huge xs i % 4294967296 ≡ long xs (i + 4) = omega arith in
    rw (q, r) (joint xs (long_bytes (long xs i)) (long_bytes (long xs (i + 4))) i 4 4 (long_at xs b i (omega arith)) (long_at xs b (i + 4) (omega arith)))

-- four bytes in two's complement
value_fits : (v : ℤ) → Value v → SFits w32 v
value_fits (pos n) h = record { sfits = omega arith }
value_fits (negsuc n) h = record { sfits = omega arith }

pub signed_back : (v : ℤ) (rest : List ℕ) → Value v → signed (long_bytes (of_z w32 v) ++ rest) 0 ≡ v
signed_back v rest h = ap (to_z w32) (simp word_of (long_of (of_z w32 v))) ∙ to_z-of_z w32 v (value_fits v h)

pub signed_at : (xs : List ℕ) (b : Bytes xs) (i : ℕ) → i + 4 ≤ length xs → long_bytes (of_z w32 (signed xs i)) ++ drop (i + 4) xs ≡ drop i xs
signed_at xs b i h = ap (λ n. long_bytes n ++ drop (i + 4) xs) (of_z-to_z w32 (long xs i) (long_below xs b i h)) ∙ long_at xs b i h

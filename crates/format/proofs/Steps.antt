-- What each step of reading answers, and that two answers differ.
use Rattle.std.proofs.Common.{◌≡◌, ℕ, ◌<◌, ◌≤◌, Bool, true, leb, List, length, Some, None, Err, Option, Result, ap, ◌∙◌}
use Rattle.std.specs.Bool.{then_some}
use Rattle.std.proofs.lemmas.Bool.{le-leb, lt-leb, cond-true, cond-false}
use Rattle.commands.specs.declared.causes.Cause.{Cause}
use Rattle.commands.specs.declared.causes.Cause.TheVariants.{CutShort}
use Rattle.commands.specs.Commands.{whole}
use Rattle.commands.specs.Records.{made}

pub then_some_is : {X : Type 0} (b : Bool) (x : X) → b ≡ true → then_some b x ≡ Some x
then_some_is b x t = ap (λ c. then_some c x) t

pub made_is : {X Y : Type 0} (b : Bool) (f : X → Y) (o : Option X) (x : X) → o ≡ Some x → b ≡ true → made b f o ≡ Some (f x)
made_is b f o x e t = ap (made b f) e ∙ then_some_is b (f x) t

pub whole_is : {X : Type 0} (n : ℕ) (xs : List ℕ) (r : Result X Cause) → n ≤ length xs → whole n xs r ≡ r
whole_is n xs r h = cond-true (leb n (length xs)) r (Err CutShort) (le-leb n (length xs) h)

pub whole_short : {X : Type 0} (n : ℕ) (xs : List ℕ) (r : Result X Cause) → length xs < n → whole n xs r ≡ Err CutShort
whole_short n xs r h = cond-false (leb n (length xs)) r (Err CutShort) (lt-leb n (length xs) h)

pub never : {X : Type 0} (x : X) → ◌≡◌ {A = Option X} None (Some x) → ⊥
never x e = cc

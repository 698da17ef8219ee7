-- What it takes for each step of reading to answer something.
use Rattle.std.proofs.Common.{◌≡◌, ℕ, ◌≤◌, Bool, true, false, cond, leb, List, length, Some, None, Ok, Err, Option, Result, refl}
use Rattle.std.specs.Bool.{then_some}
use Rattle.std.specs.Option.{option_map}
use Rattle.std.proofs.lemmas.Bool.{leb-true}
use Rattle.commands.specs.declared.command.Command.{Command}
use Rattle.commands.specs.declared.causes.Cause.{Cause}
use Rattle.commands.specs.declared.causes.Cause.TheVariants.{CutShort}
use Rattle.commands.specs.Records.{made}
use Rattle.commands.specs.Commands.{whole, ranged, commanded}

pub then_some_inv : {X : Type 0} (b : Bool) (x y : X) → then_some b x ≡ Some y → (b ≡ true) × (x ≡ y)
then_some_inv true x y e = (refl, (cc))
then_some_inv false x y e = absurd (cc)

pub made_some : {X Y : Type 0} (b : Bool) (f : X → Y) (o : Option X) (y : Y) → made b f o ≡ Some y → (x : X) × (o ≡ Some x) × (b ≡ true) × (f x ≡ y)
made_some b f None y e = absurd (cc)
made_some b f (Some x) y e = let g = then_some_inv b (f x) y e in (x, refl, g.0, g.1)

pub ranged_ok : {X : Type 0} (o : Option X) (x : X) → ranged o ≡ Ok x → o ≡ Some x
ranged_ok None x e = absurd (cc)
ranged_ok (Some y) x e = cc

pub mapped_ok : {X Y : Type 0} (f : X → Y) (o : Option X) (y : Y) → ranged (option_map f o) ≡ Ok y → (x : X) × (o ≡ Some x) × (f x ≡ y)
mapped_ok f None y e = absurd (cc)
mapped_ok f (Some x) y e = (x, refl, (cc))

pub cond_ok : {X : Type 0} (b : Bool) (r : Result X Cause) (d : Cause) (x : X) → cond b r (Err d) ≡ Ok x → (b ≡ true) × (r ≡ Ok x)
cond_ok true r d x e = (refl, e)
cond_ok false r d x e = absurd (cc)

pub whole_ok : {X : Type 0} (n : ℕ) (xs : List ℕ) (r : Result X Cause) (x : X) → whole n xs r ≡ Ok x → (n ≤ length xs) × (r ≡ Ok x)
whole_ok n xs r x e = let g = cond_ok (leb n (length xs)) r CutShort x e in (leb-true n (length xs) g.0, g.1)

pub commanded_ok : {X : Type 0} (f : X → Command) (r : Result X Cause) (c : Command) → commanded f r ≡ Ok c → (x : X) × (r ≡ Ok x) × (f x ≡ c)
commanded_ok f (Err d) c e = absurd (cc)
commanded_ok f (Ok x) c e = (x, refl, (cc))

-- One step of a walk over what a list of rows maps to.
use Rattle.std.proofs.Common.{◌≡◌, ℕ, ◌+◌, ◌-◌, ◌<◌, ◌≤◌, List, [], ◌∷◌, ◌++◌, map, length, get_or, take, drop, sym, ap, ◌∙◌}
use Rattle.std.proofs.lemmas.List.{take_more, drop_more, drop_all, get_or-map, length-map, take_rest, drop-map}

module _ {X Y : Type 0} (f : X → Y) (xs : List X) (i : ℕ) where
  pub mapped_here : (x : X) (d : Y) → i < length xs → x ≡ get_or xs i x → get_or (map f xs) i d ≡ f x
  mapped_here x d h e = get_or-map f xs i x d h ∙ ap f (sym e)

  -- what is left
  pub mapped_more : (x : X) → i < length xs → x ≡ get_or xs i x → drop i (map f xs) ≡ f x ∷ drop (i + 1) (map f xs)
  mapped_more x h e =
      let k : i < length (map f xs) = rw length-map h in
      drop_more (map f xs) i (f x) k ∙ ap (λ y. y ∷ drop (i + 1) (map f xs)) (mapped_here x (f x) h e)

  pub mapped_all : length xs ≤ i → drop i (map f xs) ≡ []
  mapped_all h = drop_all i (map f xs) (rw length-map h)

  -- what was passed
  pub mapped_push : (x : X) → i < length xs → x ≡ get_or xs i x → take (i + 1) (map f xs) ≡ take i (map f xs) ++ f x ∷ []
  mapped_push x h e =
      let k : i < length (map f xs) = rw length-map h in
      take_more (map f xs) i (f x) k ∙ ap (λ y. take i (map f xs) ++ y ∷ []) (mapped_here x (f x) h e)

  -- `&xs[i..]`, mapped
  pub mapped_rest : map f (take (length xs - i) (drop i xs)) ≡ drop i (map f xs)
  mapped_rest = ap (map f) (take_rest xs i) ∙ sym (drop-map f i xs)

use Rattle.std.proofs.Common.{◌≡◌, ℕ, ◌+◌, ◌-◌, List, [], ◌∷◌, ◌++◌, take, vec_len, MatchOption, None, Option, Some, option_to_list, reverse, refl, ap, ◌∙◌, arith}
use Rattle.std.proofs.lemmas.List.{reverse-append}
use Rattle.tw_search.specs.declared.step.Choice.{Choice}
use Rattle.tw_search.proofs.engine.pop_choice.Goals as goal

-- nothing was taken from an empty list
none_popped : (xs ys : List Choice) (n : ℕ) → n ≡ 0 → ys ≡ take (n - 1) xs → xs ≡ ys ++ [] → reverse xs ≡ []
none_popped [] ys n e t q = refl
none_popped (x ∷ xs) ys n e t q =
    let z : n - 1 ≡ 0 = omega (arith, e) in
    let p : x ∷ xs ≡ [] = q ∙ ap (λ zs. zs ++ []) (t ∙ ap (λ k. take k (x ∷ xs)) z) in
    cc

popped : (xs ys : List Choice) (n m : ℕ) (o : Option Choice) → xs ≡ ys ++ option_to_list o → MatchOption o ((n ≡ 0) × (m ≡ 0)) (λ _. m + 1 ≡ n) → ys ≡ take (n - 1) xs → MatchOption o (reverse xs ≡ []) (λ c. reverse xs ≡ c ∷ reverse ys)
popped xs ys n m None q k t = none_popped xs ys n k.0 t q
popped xs ys n m (Some c) q k t = ap reverse q ∙ reverse-append ys (c ∷ [])

pub returns : goal.returns
returns c = popped c.args.choices.now.items c.pop.new.self.items (vec_len c.args.choices.now) (vec_len c.pop.new.self) c.pop.result c.pop.ensures.items c.pop.ensures.cases c.pop.ensures.rest

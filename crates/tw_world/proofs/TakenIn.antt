-- Blocks taken in one after the other, each once.
use Rattle.std.proofs.Common.{◌≡◌, ℕ, ◌+◌, ◌<◌, ◌≤◌, List, [], ◌∷◌, ◌++◌, length, drop, map, get_or, reverse, refl, sym, ap, ◌∙◌, subst, inl, inr}
use Rattle.std.specs.Prelude.{◌⊎◌}
use Rattle.std.proofs.lemmas.List.{append_assoc, append-nil, map-append, reverse-append}
use Rattle.lf.specs.Subordination.{Block, Member}
use Rattle.lf_checks.specs.OrderFaults.{AreJoined, EachOnce, again, blocks_of, for_the_first_time, no_more, or_no_blocks}
use Rattle.lf_checks.specs.WorldFaults.{WorldRow, worlds_of}
use Rattle.lf_checks.proofs.Listed.{member_either, member_left, member_right}
use Rattle.tw_world.specs.Joined.{TakesIn}
use Rattle.tw_world.proofs.Served.{mapped_at, mapped_end}

pub takes_nothing : (J : List Block) → TakesIn J [] J
takes_nothing J = record { added = []; stands = sym (append-nil J); goes_on = λ rest W h. h }

-- one part after the other
pub takes_both : (J As K Bs L : List Block) → TakesIn J As K → TakesIn K Bs L → TakesIn J (As ++ Bs) L
takes_both J As K Bs L p q = record {
  added = p.added ++ q.added;
  stands = q.stands ∙ ap (λ xs. xs ++ q.added) p.stands ∙ append_assoc J p.added q.added;
  goes_on = λ rest W h. subst (λ xs. EachOnce (reverse J) xs ((p.added ++ q.added) ++ W)) (sym (append_assoc As Bs rest)) (subst (EachOnce (reverse J) (As ++ (Bs ++ rest))) (sym (append_assoc p.added q.added W)) (p.goes_on (Bs ++ rest) (q.added ++ W) (q.goes_on rest W h)));
}

-- the other way round they have the same blocks
turned_more : (B x : Block) (xs : List Block) → (Member B xs → Member B (reverse xs)) → Member B (x ∷ xs) → Member B (reverse xs ++ x ∷ [])
turned_more B x xs f (inl e) = member_right B (reverse xs) (x ∷ []) (inl e)
turned_more B x xs f (inr k) = member_left B (reverse xs) (x ∷ []) (f k)

turned : (B : Block) (xs : List Block) → Member B xs → Member B (reverse xs)
turned B [] m = absurd m
turned B (x ∷ xs) m = subst (Member B) (sym (reverse-append (x ∷ []) xs)) (turned_more B x xs (λ k. turned B xs k) m)

back_more : (B x : Block) (xs : List Block) → (Member B (reverse xs) → Member B xs) → Member B (reverse xs) ⊎ Member B (x ∷ []) → Member B (x ∷ xs)
back_more B x xs f (inl k) = inr (f k)
back_more B x xs f (inr (inl e)) = inl e
back_more B x xs f (inr (inr k)) = absurd k

turned_back : (B : Block) (xs : List Block) → Member B (reverse xs) → Member B xs
turned_back B [] m = m
turned_back B (x ∷ xs) m = back_more B x xs (λ k. turned_back B xs k) (member_either B (reverse xs) (x ∷ []) (subst (Member B) (reverse-append (x ∷ []) xs) m))

-- one block that is there, and one that isn't
pub takes_known : (J : List Block) (B : Block) → Member B J → TakesIn J (B ∷ []) J
takes_known J B m = record { added = []; stands = sym (append-nil J); goes_on = λ rest W h. again (turned B J m) h }

pub takes_new : (J : List Block) (B : Block) → (Member B J → ⊥) → TakesIn J (B ∷ []) (J ++ B ∷ [])
takes_new J B n = record {
  added = B ∷ [];
  stands = refl;
  goes_on = λ rest W h. for_the_first_time (λ m. n (turned_back B J m)) (subst (λ seen. EachOnce seen rest W) (reverse-append J (B ∷ [])) h);
}

-- the same where a copy of the block is pushed
pub takes_pushed : {X : Type 0} (f : X → Block) (items : List X) (b : X) (B : Block) → f b ≡ B → (Member B (map f items) → ⊥) → TakesIn (map f items) (B ∷ []) (map f (items ++ b ∷ []))
takes_pushed f items b B e n = subst (TakesIn (map f items) (B ∷ [])) (ap (λ X. map f items ++ X ∷ []) (sym e) ∙ sym (map-append f items (b ∷ []))) (takes_new (map f items) B n)

-- of a list the next block is taken in
pub takes_next : {X : Type 0} (f : X → Block) (xs : List X) (k : ℕ) (x : X) (I J K : List Block) → k < length xs → x ≡ get_or xs k x
    → TakesIn J (f x ∷ []) K → ((L : List Block) → TakesIn J (map f (drop k xs)) L → TakesIn I (map f xs) L) → (L : List Block) → TakesIn K (map f (drop (k + 1) xs)) L → TakesIn I (map f xs) L
takes_next f xs k x I J K h e t before L rest = before L (subst (λ ys. TakesIn J ys L) (sym (mapped_at f xs k x h e)) (takes_both J (f x ∷ []) K (map f (drop (k + 1) xs)) L t rest))

-- what is taken in of all families is joined
pub all_joined : (rows : List WorldRow) (families : List ℕ) (W : List Block) → TakesIn [] (blocks_of rows families) W → AreJoined rows families W
all_joined rows families W t =
    let same : W ≡ t.added = t.stands in
    let once : EachOnce [] (blocks_of rows families ++ []) (t.added ++ []) = t.goes_on [] [] no_more in
    subst (EachOnce [] (blocks_of rows families)) (append-nil t.added ∙ sym same) (subst (λ xs. EachOnce [] xs (t.added ++ [])) (append-nil (blocks_of rows families)) once)

-- at the end nothing is left to take in
pub joined_end : {X : Type 0} (f : X → ℕ) (rows : List WorldRow) (xs : List X) (k : ℕ) (J : List Block) → length xs ≤ k
    → ((L : List Block) → TakesIn J (blocks_of rows (map f (drop k xs))) L → TakesIn [] (blocks_of rows (map f xs)) L) → TakesIn [] (blocks_of rows (map f xs)) J
joined_end f rows xs k J past h = h J (subst (λ ys. TakesIn J (blocks_of rows ys) J) (sym (mapped_end f xs k past)) (takes_nothing J))

-- the blocks of the next family are taken in
pub family_next : {X : Type 0} (f : X → ℕ) (rows : List WorldRow) (xs : List X) (k : ℕ) (x : X) (V J K : List Block) → k < length xs → x ≡ get_or xs k x → or_no_blocks (worlds_of rows (f x)) ≡ V
    → TakesIn J V K → ((L : List Block) → TakesIn J (blocks_of rows (map f (drop k xs))) L → TakesIn [] (blocks_of rows (map f xs)) L) → (L : List Block) → TakesIn K (blocks_of rows (map f (drop (k + 1) xs))) L → TakesIn [] (blocks_of rows (map f xs)) L
family_next f rows xs k x V J K h e v t before L rest =
    let more = blocks_of rows (map f (drop (k + 1) xs)) in
    before L (subst (λ ys. TakesIn J (blocks_of rows ys) L) (sym (mapped_at f xs k x h e)) (subst (λ U. TakesIn J (U ++ more) L) (sym v) (takes_both J V K more L t rest)))

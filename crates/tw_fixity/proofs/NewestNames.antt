-- What a map from names has after a number is put at one of them.
use Rattle.std.proofs.Common.{◌≡◌, ℕ, List, Bool, true, false, cond, Option, Vec, refl, sym, subst, ◌∙◌}
use Rattle.std.specs.Cmp.Lexicographic.{bytes_decides, nat_list_eq_equiv}
use Rattle.std.specs.Str.{bytes_eq}
use Rattle.std.specs.HashMap.{HashMap, UpdatesBy}
use Rattle.std.specs.Map.{lookup, IsKeyTest, AreApart, KeepsOthers}
use Rattle.tw_fixity.specs.Newest.{number_at}

apart : (bs cs ks : List ℕ) → bytes_eq bs cs ≡ false → bytes_eq bs ks ≡ true → bytes_eq cs ks ≡ false
apart bs cs ks n y = nat_list_eq_equiv.symm cs ks ∙ sym (nat_list_eq_equiv.congr bs ks cs y) ∙ n

other_entries : {K X : Type 0} (eq : K → K → Bool) (test : K → Bool) (old new : List (K × X)) → KeepsOthers eq test old new → (other : K → Bool) → IsKeyTest eq other → AreApart test other → lookup other new ≡ lookup other old
unfolding KeepsOthers
other_entries eq test old new h = h

cases : (b : Bool) (w : Option ℕ) (f g : Option ℕ) → (b ≡ true → g ≡ w) → (b ≡ false → g ≡ f) → g ≡ cond b w f
cases true w f g h k = h refl
cases false w f g h k = k refl

-- the number at the name, and at each other name the number from before
pub number_at-put : {A S : Type 0} (m n : HashMap (Vec ℕ A) ℕ S) (w : Option ℕ) (bs : List ℕ) → UpdatesBy (λ x y. bytes_eq x.items y.items) (λ k. bytes_eq bs k.items) m n w → (cs : List ℕ) → number_at n cs ≡ cond (bytes_eq bs cs) w (number_at m cs)
number_at-put m n w bs h cs =
    cases (bytes_eq bs cs) w (number_at m cs) (number_at n cs)
    (λ y. subst (λ l. number_at n l ≡ w) ((bytes_decides bs cs).0 y) h.1)
    (λ e. other_entries _ _ _ _ h.3 (λ k. bytes_eq cs k.items) (λ x y. nat_list_eq_equiv.congr cs x.items y.items) (λ k. apart bs cs k.items e))

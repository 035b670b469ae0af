-- A chosen name is a new name for a variable.
use Rattle.std.proofs.Common.{◌≡◌, ℕ, zero, suc, ◌+◌, ◌≤◌, ◌<◌, ◌^◌, ◌%◌, List, [], ◌∷◌, ◌++◌, length, drop, Bool, true, false, Some, refl, sym, ap, ap₂, ◌∙◌, subst, arith, append_assoc}
use Rattle.std.specs.Prelude.{decimal, codes, encode_utf8_all}
use Rattle.std.specs.Char.{encode_utf8}
use Rattle.std.specs.Str.{bytes_eq}
use Rattle.std.specs.Cmp.Lexicographic.{bytes_decides}
use Rattle.std.proofs.lemmas.Fmt.{decimal_by_steps, decimal_nonempty}
use Rattle.tw_names.specs.Scope.{binder_name}
use Rattle.tw_parse.specs.Words.{fixed_word}
use Rattle.tw_parse.specs.declared.words.Word.TheVariants.{Name, Underscore}
use Rattle.tw_fixity.specs.Names.{Names as Scope}
use Rattle.tw_print.specs.Names.{Scene, candidate, fresh_name}
use Rattle.tw_print.specs.Shown.{nesting_limit}
use Rattle.law_reading_back.specs.Names.{EachIs, IsPlainCharacter, IsName, HasRoom}
use Rattle.law_reading_back.proofs.Fresh.{IsFree, fresh_is_free}
use Rattle.law_reading_back.proofs.Parts.{IsGood}
use Rattle.law_reading_back.proofs.Scopes.{untaken}

-- the byte of a decimal digit
abbrev pub IsDigit : ℕ → Type 0
IsDigit b = (d : ℕ) × (d < 10) × (b ≡ 48 + d)

each_append : (P : ℕ → Type 0) (xs ys : List ℕ) → EachIs P xs → EachIs P ys → EachIs P (xs ++ ys)
each_append P [] ys h k = k
each_append P (x ∷ xs) ys (h, r) k = (h, each_append P xs ys r k)

each_drop : (P : ℕ → Type 0) (n : ℕ) (xs : List ℕ) → EachIs P xs → EachIs P (drop n xs)
each_drop P zero xs h = h
each_drop P (suc n) [] h = h
each_drop P (suc n) (x ∷ xs) h = each_drop P n xs h.1

each_as : (P Q : ℕ → Type 0) → ((b : ℕ) → P b → Q b) → (xs : List ℕ) → EachIs P xs → EachIs Q xs
each_as P Q f [] h = tt
each_as P Q f (x ∷ xs) h = (f x h.0, each_as P Q f xs h.1)

decimal_digits : (n : ℕ) → n < 2 ^ 64 → EachIs IsDigit (decimal n)
decimal_digits n h =
    decimal_by_steps (λ m ds. EachIs IsDigit ds) (λ m k. ((m, k, refl), tt))
    (λ m ds k all. each_append IsDigit ds ((48 + m % 10) ∷ []) all ((m % 10, omega arith, refl), tt)) n h

-- digits are plain characters, each its own UTF-8
digit_plain : (d : ℕ) → d < 10 → IsPlainCharacter (48 + d)
digit_plain zero h = record { scalar = refl; plain = refl }
digit_plain (suc zero) h = record { scalar = refl; plain = refl }
digit_plain (suc (suc zero)) h = record { scalar = refl; plain = refl }
digit_plain (suc (suc (suc zero))) h = record { scalar = refl; plain = refl }
digit_plain (suc (suc (suc (suc zero)))) h = record { scalar = refl; plain = refl }
digit_plain (suc (suc (suc (suc (suc zero))))) h = record { scalar = refl; plain = refl }
digit_plain (suc (suc (suc (suc (suc (suc zero)))))) h = record { scalar = refl; plain = refl }
digit_plain (suc (suc (suc (suc (suc (suc (suc zero))))))) h = record { scalar = refl; plain = refl }
digit_plain (suc (suc (suc (suc (suc (suc (suc (suc zero)))))))) h = record { scalar = refl; plain = refl }
digit_plain (suc (suc (suc (suc (suc (suc (suc (suc (suc zero))))))))) h = record { scalar = refl; plain = refl }
digit_plain (suc (suc (suc (suc (suc (suc (suc (suc (suc (suc d)))))))))) h = absurd (omega (arith, h))

digit_own : (d : ℕ) → d < 10 → encode_utf8 (48 + d) ≡ (48 + d) ∷ []
unfolding encode_utf8
digit_own zero h = refl
digit_own (suc zero) h = refl
digit_own (suc (suc zero)) h = refl
digit_own (suc (suc (suc zero))) h = refl
digit_own (suc (suc (suc (suc zero)))) h = refl
digit_own (suc (suc (suc (suc (suc zero))))) h = refl
digit_own (suc (suc (suc (suc (suc (suc zero)))))) h = refl
digit_own (suc (suc (suc (suc (suc (suc (suc zero))))))) h = refl
digit_own (suc (suc (suc (suc (suc (suc (suc (suc zero)))))))) h = refl
digit_own (suc (suc (suc (suc (suc (suc (suc (suc (suc zero))))))))) h = refl
digit_own (suc (suc (suc (suc (suc (suc (suc (suc (suc (suc d)))))))))) h = absurd (omega (arith, h))

plain_digit : (b : ℕ) → IsDigit b → IsPlainCharacter b
plain_digit b (d, h, e) = subst IsPlainCharacter (sym e) (digit_plain d h)

own_digits : (ds : List ℕ) → EachIs IsDigit ds → encode_utf8_all ds ≡ ds
own_digits [] h = refl
own_digits (b ∷ ds) ((d, k, e), h) = ap₂ (λ x y. x ++ y) (ap encode_utf8 e ∙ digit_own d k ∙ ap (λ z. z ∷ []) (sym e)) (own_digits ds h)

encodes_append : (xs ys : List ℕ) → encode_utf8_all (xs ++ ys) ≡ encode_utf8_all xs ++ encode_utf8_all ys
encodes_append [] ys = refl
encodes_append (x ∷ xs) ys = ap (λ zs. encode_utf8 x ++ zs) (encodes_append xs ys) ∙ sym (append_assoc (encode_utf8 x) (encode_utf8_all xs) (encode_utf8_all ys))

-- what ends in digits is no identifier with a fixed meaning
abbrev NoDigit : ℕ → Type 0
NoDigit b = IsDigit b → ⊥

drop_append : (xs ys : List ℕ) → drop (length xs) (xs ++ ys) ≡ ys
drop_append [] ys = refl
drop_append (x ∷ xs) ys = drop_append xs ys

no_digits : (ds : List ℕ) → EachIs IsDigit ds → EachIs NoDigit ds → 0 < length ds → ⊥
no_digits [] h k l = omega (arith, l)
no_digits (d ∷ ds) h k l = k.0 h.0

differs : (f : List ℕ) → EachIs NoDigit f → (base ds : List ℕ) → EachIs IsDigit ds → 0 < length ds → bytes_eq (base ++ ds) f ≡ false
differs f n base ds h l = unlike (bytes_eq (base ++ ds) f) (λ q. clash ((bytes_decides (base ++ ds) f).0 q))
  where
    unlike : (v : Bool) → (v ≡ true → ⊥) → v ≡ false
    unlike true g = absurd (g refl)
    unlike false g = refl

    clash : base ++ ds ≡ f → ⊥
    clash e = no_digits ds h (subst (EachIs NoDigit) (ap (drop (length base)) (sym e) ∙ drop_append base ds) (each_drop NoDigit (length base) f n)) l

high : (b : ℕ) → 57 < b → NoDigit b
high b h (d, k, e) = omega (arith, h, k, e)

low : (b : ℕ) → b < 48 → NoDigit b
low b h (d, k, e) = omega (arith, h, k, e)

with_digits_free : (base ds : List ℕ) → EachIs IsDigit ds → 0 < length ds → fixed_word (base ++ ds) ≡ Name
with_digits_free base ds h l =
    rw (
      differs (codes "->") (low 45 (omega arith), (high 62 (omega arith), tt)) base ds h l,
      differs (codes "<-") (high 60 (omega arith), (low 45 (omega arith), tt)) base ds h l,
      differs (codes "_") (high 95 (omega arith), tt) base ds h l,
      differs (codes "=") (high 61 (omega arith), tt) base ds h l,
      differs (codes "type") (high 116 (omega arith), (high 121 (omega arith), (high 112 (omega arith), (high 101 (omega arith), tt)))) base ds h l,
    ) refl

-- a candidate of a name is a name
pub candidate_is_name : (base : List ℕ) (k : ℕ) → k < 2 ^ 64 → IsName base → IsName (candidate base k)
candidate_is_name base zero h n = n
candidate_is_name base (suc k) h n =
    let ds = decimal_digits (suc k) h in
    record {
      first = n.first;
      others = n.others ++ decimal (suc k);
      spelled = ap₂ (λ x y. x ++ y) n.spelled (sym (own_digits (decimal (suc k)) ds)) ∙ sym (encodes_append (n.first ∷ n.others) (decimal (suc k)));
      plain = each_append IsPlainCharacter (n.first ∷ n.others) (decimal (suc k)) n.plain (each_as IsDigit IsPlainCharacter plain_digit (decimal (suc k)) ds);
      free = with_digits_free base (decimal (suc k)) ds (decimal_nonempty (suc k) h);
    }

name_is_no_hole : (x : List ℕ) → IsName x → x ≡ codes "_" → ⊥
name_is_no_hole x n e = let u : Name ≡ Underscore = sym n.free ∙ ap fixed_word e in cc

not_hole : (x : List ℕ) → IsName x → bytes_eq x (codes "_") ≡ false
not_hole x n = unlike (bytes_eq x (codes "_")) (λ e. name_is_no_hole x n ((bytes_decides x (codes "_")).0 e))
  where
    unlike : (b : Bool) → (b ≡ true → ⊥) → b ≡ false
    unlike true f = absurd (f refl)
    unlike false f = refl

binds : (x : List ℕ) → bytes_eq x (codes "_") ≡ false → binder_name x ≡ Some x
binds x e = rw e refl

pub chosen : (s : Scene) (ns : Scope) (base : List ℕ) → HasRoom s → length ns ≤ nesting_limit → IsName base → IsGood s ns (fresh_name s ns base)
chosen s ns base room deep n =
    let f : IsFree s ns base (fresh_name s ns base) = fresh_is_free s ns room deep base in
    let name : IsName (fresh_name s ns base) = subst IsName (sym f.is) (candidate_is_name base f.number f.small n) in
    record {
      new = record { untaken = untaken s ns (fresh_name s ns base) f.untaken; binds = binds (fresh_name s ns base) (not_hole (fresh_name s ns base) name) };
      name = name;
    }

-- the names without a preference
pub upper_default : IsName (codes "X")
unfolding encode_utf8
upper_default = record { first = 88; others = []; spelled = refl; plain = (record { scalar = refl; plain = refl }, tt); free = refl }

pub lower_default : IsName (codes "x")
unfolding encode_utf8
lower_default = record { first = 120; others = []; spelled = refl; plain = (record { scalar = refl; plain = refl }, tt); free = refl }

-- How declarations are shown one by one.
use Rattle.std.proofs.Common.{◌≡◌, ℕ, suc, ◌+◌, ◌<◌, ◌≤◌, List, [], ◌∷◌, ◌++◌, length, refl, sym, ap, ◌∙◌, arith, subst, add-one, None, Some, Err, inl, inr, codes, Bool, true, false}
use Rattle.std.specs.Prelude.{cond}
use Rattle.std.specs.Str.{bytes_eq}
use Rattle.std.specs.declared.option.Option.{Option}
use Rattle.std.specs.declared.result.Result.{Result}
use Rattle.lf.specs.Entries.{Entry}
use Rattle.tw_decl.specs.View.{View, scene_of}
use Rattle.tw_ports.specs.Ports.{Gains}
use Rattle.tw_ports.proofs.Gained.{Gains-trans, Gains-same}
use Rattle.tw_print.specs.Shown.{line_of}
use Rattle.tw_server.specs.Loading.{first_lines, ShowsNumber}
use Rattle.tw_server.specs.Loaded.{AreShown, IsShown}
use Rattle.tw_server.specs.Replies.{accepted, refused, no_memory, unknown_name}
use Rattle.tw_server.specs.Written.{GainsFront, GainsReply}
use Rattle.tw_server.proofs.Pieces.{front_first, reply_second}
use Rattle.tw_signature.specs.Names.{number_of}

first_or_rest : (b : Bool) (es : List Entry) (name : List ℕ) (c : ℕ) → (number_of es name ≡ Some c → c < length es) → cond b (Some (length es)) (number_of es name) ≡ Some c → c < suc (length es)
first_or_rest true es name c rest h = let e : length es ≡ c = cc in omega arith
first_or_rest false es name c rest h = let l = rest h in omega arith

-- the number of an entry is below how many there are
pub number_within : (es : List Entry) (name : List ℕ) (c : ℕ) → number_of es name ≡ Some c → c < length es
number_within [] name c h = cc
number_within (e ∷ es) name c h = first_or_rest (bytes_eq e.name name) es name c (λ k. number_within es name c k) h

first_lines_next : (v : View) (n : ℕ) → first_lines v (n + 1) ≡ first_lines v n ++ (line_of (scene_of v) n ++ codes "\n")
first_lines_next v n = ap (first_lines v) (add-one n)

-- one more line was written
pub lines_more : (v : View) (n : ℕ) (line : List ℕ) (a b c : Option (List ℕ)) → Gains a b (first_lines v n) → line ≡ line_of (scene_of v) n ++ codes "\n" → Gains b c line → Gains a c (first_lines v (n + 1))
lines_more v n line a b c g e h = Gains-same a c _ _ (ap (λ (l : List ℕ). first_lines v n ++ l) e ∙ sym (first_lines_next v n)) (Gains-trans a b c (first_lines v n) line g h)

-- a line was written in part: memory might have been wanting behind it
pub lines_cut : {E : Type 0} (v : View) (n : ℕ) (line : List ℕ) (a b c : Option (List ℕ)) (x : E) → n < length v.signature → Gains a b (first_lines v n) → line ≡ line_of (scene_of v) n ++ codes "\n" → GainsReply {E = E} b c line (Err x) → AreShown {E = E} v a c (Err x)
lines_cut {E = E} v n line a b c x less g e h =
    let reply = first_lines v (n + 1) ++ (no_memory ++ refused) in
    let cut : GainsFront a c (first_lines v n ++ line) = reply_second {E = E} a b c (first_lines v n) line (Err x) g h in
    let same : first_lines v n ++ line ≡ first_lines v (n + 1) = ap (λ (l : List ℕ). first_lines v n ++ l) e ∙ sym (first_lines_next v n) in
    (reply, inl (record { count = n + 1; few = omega arith; says = refl; same = refl }), front_first a c (first_lines v (n + 1)) (no_memory ++ refused) (subst (GainsFront a c) same cut))

-- memory was wanting for a line
pub lines_lost : {E : Type 0} (v : View) (n : ℕ) (a b c : Option (List ℕ)) (r : Result (Unit {0}) E) → n ≤ length v.signature → Gains a b (first_lines v n) → GainsReply b c (no_memory ++ refused) r → AreShown v a c r
lines_lost v n a b c r few g h =
    (first_lines v n ++ (no_memory ++ refused), inl (record { count = n; few = few; says = refl; same = refl }), reply_second a b c (first_lines v n) (no_memory ++ refused) r g h)

-- all lines were written
pub lines_end : {E : Type 0} (v : View) (n : ℕ) (a b c : Option (List ℕ)) (r : Result (Unit {0}) E) → n ≡ length v.signature → Gains a b (first_lines v n) → GainsReply b c accepted r → AreShown v a c r
lines_end v n a b c r e g h =
    (first_lines v n ++ accepted, inr (ap (λ k. first_lines v k ++ accepted) e, refl), reply_second a b c (first_lines v n) accepted r g h)

-- the entry of a name was shown
pub shown_some : {E : Type 0} (v : View) (name : List ℕ) (c : ℕ) (line : List ℕ) (a b : Option (List ℕ)) (r : Result (Unit {0}) E) → number_of v.signature name ≡ Some c → line ≡ line_of (scene_of v) c ++ codes "\n"
    → GainsReply a b (line ++ accepted) r → IsShown v name a b r
shown_some v name c line a b r e l g =
    (line ++ accepted, inr (subst (λ (n : Option ℕ). ShowsNumber v name n (line ++ accepted)) (sym e) (ap (λ (x : List ℕ). x ++ accepted) l), refl), g)

-- no entry has the name
pub shown_none : {E : Type 0} (v : View) (name word : List ℕ) (a b : Option (List ℕ)) (r : Result (Unit {0}) E) → number_of v.signature name ≡ None → word ≡ name → GainsReply a b (unknown_name word ++ refused) r → IsShown v name a b r
shown_none v name word a b r e same g = (
  unknown_name name ++ refused,
  inr (subst (λ (n : Option ℕ). ShowsNumber v name n (unknown_name name ++ refused)) (sym e) refl, refl),
  subst (λ (x : List ℕ). GainsReply a b (unknown_name x ++ refused) r) same g,
)

-- memory was wanting for it
pub shown_lost : {E : Type 0} (v : View) (name : List ℕ) (a b : Option (List ℕ)) (r : Result (Unit {0}) E) → GainsReply a b (no_memory ++ refused) r → IsShown v name a b r
shown_lost v name a b r g = (no_memory ++ refused, inl (record { says = refl; same = refl }), g)

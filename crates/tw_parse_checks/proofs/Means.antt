-- What a sequence means, it means alone.
use Rattle.std.proofs.Common.{◌≡◌, List, [], ◌∷◌, ◌++◌, refl}
use Rattle.tw_lexer.specs.declared.place.Place.{Place}
use Rattle.tw_parse.specs.Outlines.{Table, Outline, Sequence, Shapes, declares}
use Rattle.tw_parse.specs.Readings.{Means, declared, Declares, FirstFault, of_first}
use Rattle.tw_parse.specs.Syntax.{Term, declare}
use Rattle.tw_parse.specs.Words.{Lexeme}
use Rattle.tw_parse.specs.declared.words.Word.TheVariants.{Name, Colon, Dot}
use Rattle.tw_parse.proofs.Failing.{a_word}
use Rattle.tw_parse.proofs.OneReading.{one_reading}
use Rattle.tw_parse.proofs.Ports.{port_sequence}

-- the sequence as a type that is declared
declared_type : (table : Table) (at : Place) {tokens rest : List Lexeme} {O : Outline} → Sequence table tokens O rest → (all : List Lexeme) × Shapes table all (declare [] at O)
declared_type table at s =
    let i = port_sequence table s in
    let dot : Lexeme = a_word at Dot in
    (a_word at Name ∷ a_word at Colon ∷ (i.front ++ dot ∷ []), declares refl refl (i.anew (dot ∷ [])) refl)

pub means_once : (table : Table) (at : Place) {tokens rest : List Lexeme} {O : Outline} {A B : Term} → Sequence table tokens O rest → Means O A → Means O B → A ≡ B
means_once table at {O = O} {A = A} {B = B} s m k =
    let d = declared_type table at s in
    let a : Declares table d.0 (declare [] at A) = (declare [] at O, d.1, declared m) in
    let b : Declares table d.0 (declare [] at B) = (declare [] at O, d.1, declared k) in
    let same : declare [] at A ≡ declare [] at B = (one_reading table d.0 (declare [] at B) b).0 (declare [] at A) a in
    let is : A ≡ B = cc in
    is

pub no_fault : (table : Table) (at : Place) {tokens rest : List Lexeme} {O : Outline} {A : Term} {place : Place} → Sequence table tokens O rest → Means O A → FirstFault O place → ⊥
no_fault table at {O = O} {A = A} {place = place} s m f =
    let d = declared_type table at s in
    let a : Declares table d.0 (declare [] at A) = (declare [] at O, d.1, declared m) in
    (one_reading table d.0 (declare [] at A) a).1 (declare [] at O) place d.1 (of_first f)

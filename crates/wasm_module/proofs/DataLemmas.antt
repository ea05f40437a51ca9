-- Data segments that are added: their number, and the data count.
use Rattle.std.proofs.Common.{◌≡◌, ◌≢◌, ◌+◌, ◌||◌, ℕ, true, false, is_some, List, Option, Some, None, Ok, refl, sym, ap, ◌∙◌, option_map, arith}
use Rattle.wasm_numbers.specs.Numbers.{u32}
use Rattle.wasm_numbers.proofs.Agreement.{ok_is}
use Rattle.wasm_operators.specs.Shortest.{short_number}
use Rattle.wasm_sections.specs.declared.changes.Changes.{Changes}
use Rattle.wasm_sections.specs.declared.sections.Section.{Section}
use Rattle.wasm_sections.specs.Additions.{SetsContents, AddsItem, contents_with}
use Rattle.wasm_module.specs.AddedItems.{AddsData, HasSegments, has_data_count}
use Rattle.wasm_sections.specs.Sections.{SectionAt, first_with, section_at}
use Rattle.wasm_sections.specs.GivenContents.{contents_in}

one_count : (text : List ℕ) (m n : ℕ) (xs ys : List ℕ) → u32 text ≡ Ok (m, xs) → u32 text ≡ Ok (n, ys) → m ≡ n
one_count text m n xs ys p q = ap (λ (x : ℕ × List ℕ). x.0) (ok_is (m, xs) (n, ys) (sym p ∙ q))

-- A segment is added, and the data count is set to one more than the number that was read before.
pub counted :
    (all : List SectionAt) (old middle new : Changes) (count : ℕ) (segment : List ℕ) → AddsItem all old middle 11 segment →
    HasSegments all old count → SetsContents middle new 12 (short_number (count + 1)) →
    AddsData all old new true segment
counted all old middle new count segment a c s =
    let same : a.has_one_more.count ≡ count =
    one_count (contents_with all old 11) a.has_one_more.count count a.has_one_more.items c.0 a.has_one_more.contents_are c.1 in
    let other : 11 ≢ 12 = omega arith in
    record {
      contents = a.contents;
      has_one_more = a.has_one_more;
      given = s.others 11 other ∙ a.sets.given;
      counts = s.given ∙ ap (λ (n : ℕ). Some (short_number (n + 1))) (sym same);
      others = λ id p q. s.others id q ∙ a.sets.others id p;
      imports = s.imports ∙ a.sets.imports;
    }

-- A segment is added, and nothing else.
pub uncounted : (all : List SectionAt) (old new : Changes) (segment : List ℕ) → AddsItem all old new 11 segment → AddsData all old new false segment
uncounted all old new segment a =
    let other : 12 ≢ 11 = omega arith in
    record {
      contents = a.contents;
      has_one_more = a.has_one_more;
      given = a.sets.given;
      counts = a.sets.others 12 other;
      others = λ id p q. a.sets.others id p;
      imports = a.sets.imports;
    }

some_of : (o : Option Section) → is_some (option_map section_at o) ≡ is_some o
some_of None = refl
some_of (Some s) = refl

-- whether there is a section, where none is given
pub is_counted :
    (all : List SectionAt) (changes : Changes) (found : Option Section) → contents_in changes.given.items 12 ≡ None → first_with 12 all ≡ option_map section_at found →
    is_some found ≡ has_data_count all changes
is_counted all changes found none e =
    sym (ap (λ (o : Option (List ℕ)). is_some o || is_some (first_with 12 all)) none ∙ ap (λ (o : Option SectionAt). is_some o) e ∙ some_of found)

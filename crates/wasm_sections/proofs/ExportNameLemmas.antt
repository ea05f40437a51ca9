-- Names of exports, one export after the other; and the faults of exports, none of which is that a name is taken.
use Rattle.std.proofs.Common.{◌≡◌, ◌≢◌, ◌⊎◌, ◌↔◌, ℕ, suc, nat_le, List, [], ◌∷◌, length, take, drop, Option, Some, None, Result, Ok, Err, refl, sym, ap, subst, ◌∙◌, inl, inr, add-one}
use Rattle.std.specs.Str.{is_utf8}
use Rattle.wasm_numbers.specs.declared.fault.ReadFault.{ReadFault}
use Rattle.wasm_numbers.specs.declared.fault.ReadFault.TheVariants as unread
use Rattle.wasm_numbers.specs.Numbers.{u32}
use Rattle.wasm_numbers.specs.Reading.{Reader}
use Rattle.wasm_numbers.specs.Results.{◌>>=◌, with_fault, some_or}
use Rattle.wasm_numbers.proofs.Agreement.{chosen}
use Rattle.wasm_numbers.proofs.ResultLemmas.{ok_same}
use Rattle.wasm_operators.specs.declared.types.Space.{Space}
use Rattle.wasm_operators.specs.Types.{row_at}
use Rattle.wasm_sections.specs.declared.exports.Export.{Export}
use Rattle.wasm_sections.specs.declared.fault.ModuleError.{ModuleError}
use Rattle.wasm_sections.specs.declared.fault.ModuleFault.{ModuleFault}
use Rattle.wasm_sections.specs.declared.fault.ModuleFault.TheVariants as fault
use Rattle.wasm_sections.specs.declared.items.Items.{Items}
use Rattle.wasm_sections.specs.Additions.{IsTooMuch, IsNotAdded}
use Rattle.wasm_sections.specs.Format.{text_if_utf8, name_part, export_rows, export_space, export_part}
use Rattle.wasm_sections.specs.Parts.{Part, just, ◌>=>◌, checked, item, item_fault, fault_here, number, one_byte, piece, bytes_part}
use Rattle.wasm_sections.specs.Views.{IsAmongExports, HasExport, TakesItem, export_value}

-- ---- faults

bind_err : {A B E : Type 0} (r : Result A E) (f : A → Result B E) (e : E) → (r >>= f) ≡ Err e → (r ≡ Err e) ⊎ ((x : A) × (f x ≡ Err e))
bind_err {A} {B} {E} (Ok x) f e h = inr (x, h)
bind_err {A} {B} {E} (Err d) f e h = let same : d ≡ e = cc in inl (ap (λ (x : E). Err x) same)

with_fault_err : {A E F : Type 0} (g : E → F) (r : Result A E) (e : F) → with_fault g r ≡ Err e → (f : E) × (r ≡ Err f) × (g f ≡ e)
with_fault_err g (Ok x) e h = absurd cc
with_fault_err g (Err f) e h = (f, refl, cc)

-- each fault of the part is another one than that a name is taken
abbrev NeverTaken : {A : Type 0} → Part A → Type 0
NeverTaken part = (end : ℕ) (text : List ℕ) (e : ModuleError) → part end text ≡ Err e → e.fault ≢ fault.ExportTaken

other_fault : (e : ModuleError) (f : ModuleFault) → e.fault ≡ f → f ≢ fault.ExportTaken → e.fault ≢ fault.ExportTaken
other_fault e f is never taken = never (sym is ∙ taken)

err_fault : {A : Type 0} (x e : ModuleError) → (let r : Result A ModuleError = Err x in r) ≡ Err e → e.fault ≡ x.fault
err_fault x e h = let same : x ≡ e = cc in ap (λ (y : ModuleError). y.fault) (sym same)

truncated_other : fault.Truncated ≢ fault.ExportTaken
truncated_other h = absurd cc

item_fault_other : (end : ℕ) (text : List ℕ) (f : ReadFault) → (item_fault end text f).fault ≢ fault.ExportTaken
item_fault_other end text unread.Truncated h = absurd cc
item_fault_other end text _ h = absurd cc

item_never : {A : Type 0} (read : Reader A) → NeverTaken (item read)
item_never read end text e h =
    let f = with_fault_err (item_fault end text) (read text) e h in
    other_fault e (item_fault end text f.0).fault (ap (λ (y : ModuleError). y.fault) (sym f.2)) (item_fault_other end text f.0)

pub number_never : NeverTaken number
number_never = item_never u32

just_never : {A : Type 0} (x : A) → NeverTaken (just x)
just_never x end text e h = absurd cc

byte_never : NeverTaken one_byte
byte_never end [] e h = other_fault e fault.Truncated (err_fault {A = ℕ × List ℕ} (fault_here end [] fault.Truncated) e h) truncated_other
byte_never end (b ∷ bs) e h = absurd cc

piece_never : (size : ℕ) → NeverTaken (piece size)
piece_never size end text e h =
    elim (chosen (nat_le size (length text)) (Ok (take size text, drop size text)) (Err (fault_here end text fault.Truncated)) (Err e) h) [
      | inl x ↦ let never = x.1 in absurd cc
      | inr x ↦ other_fault e fault.Truncated (err_fault {A = List ℕ × List ℕ} (fault_here end text fault.Truncated) e x.1) truncated_other
    ]

then_never : {A B : Type 0} (first : Part A) (second : A → Part B) → NeverTaken first → ((x : A) → NeverTaken (second x)) → NeverTaken (first >=> second)
then_never first second f g end text e h =
    elim (bind_err (first end text) (λ x. second x.0 end x.1) e h) [ inl x ↦ f end text e x | inr x ↦ g x.0.0 end x.0.1 e x.1 ]

checked_never :
    {A B : Type 0} (part : Part A) (check : A → Result B ModuleFault) → NeverTaken part → ((x : A) (f : ModuleFault) → check x ≡ Err f → f ≢ fault.ExportTaken) →
    NeverTaken (checked part check)
checked_never {A} {B} part check f g end text e h =
    elim (bind_err (part end text) (λ x. with_fault (fault_here end text) (check x.0) >>= λ v. Ok (v, x.1)) e h) [
      | inl x ↦ f end text e x
      | inr x ↦ elim (bind_err (with_fault (fault_here end text) (check x.0.0)) (λ v. Ok (v, x.0.1)) e x.1) [
        | inl y ↦
            let z = with_fault_err (fault_here end text) (check x.0.0) e y in
            other_fault e z.0 (ap (λ (y : ModuleError). y.fault) (sym z.2)) (g x.0.0 z.0 z.1)
        | inr y ↦ let never = y.1 in absurd cc
      ]
    ]

name_checked : (bytes : List ℕ) (f : ModuleFault) → text_if_utf8 bytes ≡ Err f → f ≢ fault.ExportTaken
name_checked bytes f h taken =
    elim (chosen (is_utf8 bytes) (Ok bytes) (Err fault.BadName) (Err f) h) [ inl x ↦ let never = x.1 in absurd cc | inr x ↦ let is = x.1 in absurd cc ]

some_or_other : (o : Option Space) (f : ModuleFault) → some_or o fault.BadExportKind ≡ Err f → f ≢ fault.ExportTaken
some_or_other (Some x) f h taken = absurd cc
some_or_other None f h taken = absurd cc

space_checked : (kind : ℕ) (f : ModuleFault) → export_space kind ≡ Err f → f ≢ fault.ExportTaken
space_checked kind f h = some_or_other (row_at export_rows kind) f h

name_never : NeverTaken name_part
name_never = checked_never bytes_part text_if_utf8 (then_never number piece number_never piece_never) name_checked

pub export_never : NeverTaken export_part
export_never =
    then_never name_part (λ name. checked one_byte export_space >=> λ space. number >=> λ index. just (name, space, index)) name_never
    (λ name. then_never (checked one_byte export_space) (λ space. number >=> λ index. just (name, space, index))
    (checked_never one_byte export_space byte_never space_checked)
    (λ space. then_never number (λ index. just (name, space, index)) number_never (λ index. just_never {A = List ℕ × Space × ℕ} (name, space, index))))

pub too_much_never : (e : ModuleError) → IsTooMuch e → e.fault ≢ fault.ExportTaken
too_much_never e (inl m) taken = absurd cc
too_much_never e (inr m) taken = absurd cc

pub not_added_never : (contents : List ℕ) (e : ModuleError) → IsNotAdded contents e → e.fault ≢ fault.ExportTaken
not_added_never contents e (inl m) = too_much_never e m
not_added_never contents e (inr m) = number_never (length contents) contents e m

-- ---- names

-- One of the exports that are left has this name.
abbrev pub IsAmong : (name : List ℕ) → Items → Type 0
IsAmong name s = IsAmongExports name s.count s.left.end s.left.rest.now

-- Of the exports before these none has this name.
pub record HasNoneBefore (name : List ℕ) (all s : Items) : Type 0 where
  pub forth : IsAmong name all → IsAmong name s
  pub back : IsAmong name s → IsAmong name all

pub none_before : (name : List ℕ) (all s : Items) → s ≡ all → HasNoneBefore name all s
none_before name all s e = record { forth = λ h. subst (IsAmong name) (sym e) h; back = λ h. subst (IsAmong name) e h }

abbrev taken_export : Items → Option (Result Export ModuleError) → Items → Type 0
taken_export = TakesItem export_part export_value (λ x. x.at)

module _ (name : List ℕ) (all s t : Items) (x : Export) (p : HasNoneBefore name all s) (takes : taken_export s (Some (Ok x)) t) where
  more : s.count ≡ suc t.count
  more = takes.3 ∙ add-one t.count

  -- among these with the one at the front
  with_front : (IsAmongExports name (suc t.count) s.left.end s.left.rest.now) → IsAmong name s
  with_front h = subst (λ (n : ℕ). IsAmongExports name n s.left.end s.left.rest.now) (sym more) h

  pub one_named : x.name.now ≡ name → IsAmong name all
  one_named e = p.back (with_front (export_value x, t.left.rest.now, takes.0, inl e))

  pub one_other : x.name.now ≢ name → HasNoneBefore name all t
  one_other other = record {
    forth = λ h.
        let here = subst (λ (n : ℕ). IsAmongExports name n s.left.end s.left.rest.now) more (p.forth h) in
        let same = ok_same (here.0, here.1) (export_value x, t.left.rest.now) (sym here.2 ∙ takes.0) in
        elim here.3 [
          | inl e ↦ absurd (other (ap (λ (y : (List ℕ × Space × ℕ) × List ℕ). y.0.0) (sym same) ∙ e))
          | inr later ↦
              subst (λ (n : ℕ). IsAmongExports name t.count n t.left.rest.now) (sym takes.2)
              (subst (λ (l : List ℕ). IsAmongExports name t.count s.left.end l) (ap (λ (y : (List ℕ × Space × ℕ) × List ℕ). y.1) same) later)
        ];
    back = λ h.
        p.back (with_front (export_value x, t.left.rest.now, takes.0, inr (subst (λ (n : ℕ). IsAmongExports name t.count n t.left.rest.now) takes.2 h)));
  }

pub none_named : (name : List ℕ) (all s : Items) → HasNoneBefore name all s → s.count ≡ 0 → IsAmong name all → ⊥
none_named name all s p none h = subst (λ (n : ℕ). IsAmongExports name n s.left.end s.left.rest.now) none (p.forth h)

-- the exports of the contents of a section
pub in_contents :
    (name contents items : List ℕ) (end other count : ℕ) (P : Type 0) → u32 contents ≡ Ok (count, items) → other ≡ end → P ↔ IsAmongExports name count other items → P ↔ HasExport name end contents
in_contents name contents items end other count P e s h = (
  λ x. (count, items, e, subst (λ (n : ℕ). IsAmongExports name count n items) s (h.0 x)),
  λ x.
      let same = ok_same (x.0, x.1) (count, items) (sym x.2 ∙ e) in
      h.1 (subst (λ (y : ℕ × List ℕ). IsAmongExports name y.0 other y.1) same (subst (λ (n : ℕ). IsAmongExports name x.0 n x.1) (sym s) x.3)),
)

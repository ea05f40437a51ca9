-- What is copied of a constant expression, operator by operator.
use Rattle.std.proofs.Common.{◌≡◌, ℕ, zero, suc, ◌-◌, ◌<◌, ◌≤◌, Bool, true, false, cond, List, [], ◌∷◌, length, take, Option, Result, Ok, Err, sym, ap, ◌∙◌, inl, inr, arith}
use denote.Ref.{Bor}
use Rattle.wasm_numbers.specs.declared.fault.ReadFault.TheVariants as unread
use Rattle.wasm_numbers.specs.Results.{◌>>=◌}
use Rattle.wasm_operators.specs.Opcodes.{opcode}
use Rattle.wasm_operators.specs.Operations.{RawOperation}
use Rattle.wasm_operators.specs.Spelling.{read_operation}
use Rattle.wasm_sections.specs.declared.fault.ModuleError.{ModuleError}
use Rattle.wasm_sections.specs.declared.fault.ModuleFault.TheVariants as fault
use Rattle.wasm_sections.specs.Format.{operator_part}
use Rattle.wasm_sections.specs.Parts.{◌>=>◌, just, fault_here}
use Rattle.wasm_sections.proofs.TypeReadingLemmas.{first_gives, first_fails}
use Rattle.module_removal.specs.declared.left.LeftItems.{LeftItems}
use Rattle.module_removal.specs.declared.copier.Copier.{Copier}
use Rattle.module_removal.specs.CopiedParts.{Copied, writes, copied_both, nothing, NewIndices, AppendsCopied, Copies}
use Rattle.module_removal.specs.CopiedConstants.{copied_operator, copied_operators, copied_constant, with_extent}
use Rattle.module_removal.proofs.CopyLemmas.{Read, Fails, appends_nothing, appends_both, after_this, after_none, after_two}

-- Some operators of a constant expression are copied, and the others are left.
pub record SomeOperators (w : NewIndices) (end : ℕ) (text rest : List ℕ) (old now : Copier) : Type 0 where
  pub most : ℕ
  pub enough : length rest ≤ most
  pub copied : Copied
  pub appends : AppendsCopied old copied now
  pub same : after_this copied (copied_operators w most end rest) ≡ copied_constant w end text

pub no_operators : (w : NewIndices) (end : ℕ) (text : List ℕ) (old : Copier) → SomeOperators w end text text old old
no_operators w end text old = record {
  most = length text;
  enough = omega arith;
  copied = writes [];
  appends = appends_nothing old;
  same = after_none (copied_operators w (length text) end text);
}

module _ (w : NewIndices) (n end : ℕ) where
  -- what follows an operator, which is the last one or not
  abbrev operators_after : (Bool × Copied) × List ℕ → Read (Unit {0})
  operators_after z = ((cond z.0.0 nothing (copied_operators w n)) >=> λ y. just (y.0, copied_both z.0.1 y.1)) end z.1

  abbrev operator_then : Read Bool → Read (Unit {0})
  operator_then r = r >>= operators_after

  abbrev last_or : Copied → (next : List ℕ) → Bool → Read (Unit {0})
  last_or a next is_end = operators_after ((is_end, a), next)

others_left :
    (w : NewIndices) (most end : ℕ) (rest next : List ℕ) (is_end : Bool) (a : Copied) → length rest ≤ most → length next < length rest →
    copied_operator w end rest ≡ Ok ((is_end, a), next) →
    (others : ℕ) × (length next ≤ others) × (copied_operators w most end rest ≡ last_or w others end a next is_end)
unfolding copied_operators
others_left w zero end rest next is_end a enough less e = absurd (omega arith)
others_left w (suc n) end rest next is_end a enough less e = (n, omega arith, ap (operator_then w n end) e)

module _
    (w : Option (Bor LeftItems) → NewIndices) (end : ℕ) (text rest : List ℕ) (old now : Copier) (p : SomeOperators (w old.left) end text rest old now) where
  same_operator : (other : ℕ) → other ≡ end → copied_operator (w old.left) end rest ≡ copied_operator (w now.left) other rest
  same_operator other s =
      ap (λ (l : Option (Bor LeftItems)). copied_operator (w l) end rest) (sym p.appends.left)
      ∙ ap (λ (n : ℕ). copied_operator (w now.left) n rest) (sym s)

  pub one_more_operator :
      (other : ℕ) (new : Copier) (next : List ℕ) (is_end : Bool) → other ≡ end → length next < length rest → is_end ≡ false →
      Copies now new next (Ok is_end) (copied_operator (w now.left) other rest) → SomeOperators (w old.left) end text next old new
  one_more_operator other new next is_end s less b a =
      let is : copied_operator (w old.left) end rest ≡ Ok ((is_end, a.0), next) = same_operator other s ∙ a.1 in
      let others = others_left (w old.left) p.most end rest next is_end a.0 p.enough less is in
      let more = copied_operators (w old.left) others.0 end next in
      record {
        most = others.0;
        enough = others.1;
        copied = copied_both p.copied a.0;
        appends = appends_both old now new p.copied a.0 p.appends a.2;
        same =
            sym (after_two p.copied a.0 more)
            ∙ ap (after_this p.copied) (sym (others.2 ∙ ap (last_or (w old.left) others.0 end a.0 next) b)) ∙ p.same;
      }

  pub last_operator :
      (other : ℕ) (new : Copier) (next : List ℕ) (is_end : Bool) → other ≡ end → length next < length rest → is_end ≡ true →
      Copies now new next (Ok is_end) (copied_operator (w now.left) other rest) → Copies old new next (Ok tt) (copied_constant (w old.left) end text)
  last_operator other new next is_end s less b a =
      let is : copied_operator (w old.left) end rest ≡ Ok ((is_end, a.0), next) = same_operator other s ∙ a.1 in
      let others = others_left (w old.left) p.most end rest next is_end a.0 p.enough less is in
      let last = copied_both a.0 (writes []) in (
        copied_both p.copied last,
        sym p.same ∙ ap (after_this p.copied) (others.2 ∙ ap (last_or (w old.left) others.0 end a.0 next) b),
        appends_both old now new p.copied last p.appends (appends_both now new new a.0 (writes []) a.2 (appends_nothing new)),
      )

err_same : {A : Type 0} (x y : ModuleError) → (let r : Result A ModuleError = Err x in r) ≡ Err y → x ≡ y
err_same x y e = cc

unread_left :
    (w : NewIndices) (most end : ℕ) (rest : List ℕ) (e : ModuleError) → length rest ≤ most → copied_operator w end rest ≡ Err e →
    copied_operators w most end rest ≡ Err e
unfolding copied_operators read_operation opcode
unread_left w zero end [] e enough h =
    ap (λ (f : ModuleError). Err f) (err_same {A = (Bool × Copied) × List ℕ} (fault_here end [] (fault.Read unread.Truncated)) e h)
unread_left w zero end (b ∷ bs) e enough h = absurd (omega arith)
unread_left w (suc n) end rest e enough h = ap (operator_then w n end) h

pub operator_stops :
    (w : Option (Bor LeftItems) → NewIndices) (end other : ℕ) (text rest : List ℕ) (old now : Copier) (e : ModuleError) →
    SomeOperators (w old.left) end text rest old now → other ≡ end → Fails e (copied_operator (w now.left) other rest) →
    Fails e (copied_constant (w old.left) end text)
operator_stops w end other text rest old now e p s (inl m) = inl m
operator_stops w end other text rest old now e p s (inr h) =
    inr (sym p.same
    ∙ ap (after_this p.copied) (unread_left (w old.left) p.most end rest e p.enough (same_operator w end text rest old now p other s ∙ h)))

-- ---- an operator, and its bytes

pub operator_read :
    (end : ℕ) (text rest bytes : List ℕ) (o : RawOperation) → operator_part end text ≡ Ok (o, rest) → bytes ≡ take (length text - length rest) text →
    with_extent operator_part end text ≡ Ok ((o, bytes), rest)
operator_read end text rest bytes o e b =
    first_gives (operator_part end text) (λ x. Ok ((x.0, take (length text - length x.1) text), x.1)) (o, rest) e
    ∙ ap (λ (l : List ℕ). (let r : Result ((RawOperation × List ℕ) × List ℕ) ModuleError = Ok ((o, l), rest) in r)) (sym b)

pub operator_unread :
    (end : ℕ) (text : List ℕ) (e : ModuleError) → operator_part end text ≡ Err e → with_extent operator_part end text ≡ Err e
operator_unread end text e h =
    first_fails (operator_part end text) (λ x. Ok ((x.0, take (length text - length x.1) text), x.1)) e h

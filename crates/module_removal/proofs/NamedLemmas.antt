-- The items that operators and clauses name, one after the other.
use Rattle.std.proofs.Common.{◌≡◌, ℕ, List, [], ◌∷◌, ◌++◌, flat_map, Ok, refl, sym, ap, subst, ◌∙◌, append_assoc}
use Rattle.std.proofs.lemmas.List.{append-nil}
use Rattle.wasm_operators.specs.Operations.{CatchClause, RawOperation}
use Rattle.wasm_sections.specs.Format.{operator_part}
use Rattle.module_removal.specs.declared.copier.Copier.{Copier}
use Rattle.module_removal.specs.declared.declared.Named.{Named}
use Rattle.module_removal.specs.declared.declared.Taken.{Taken}
use Rattle.module_removal.specs.declared.item.Item.{Item}
use Rattle.module_removal.specs.CopiedParts.{AppendsCopied}
use Rattle.module_removal.specs.Declaring.{taken_in_body, TakesFunctions}
use Rattle.module_removal.specs.NamedItems.{finds, named_by_tag, named_by_clauses, named_by, OperatorsThen}
use Rattle.module_removal.proofs.CopyLemmas.{appends_both}

pub finds_both :
    (old mid new : Copier) (a b : List Item) → AppendsCopied old (finds a) mid → AppendsCopied mid (finds b) new → AppendsCopied old (finds (a ++ b)) new
finds_both old mid new a b p q = appends_both old mid new (finds a) (finds b) p q

-- ---- clauses

-- the tags of some clauses were found, and those of these are left
pub record SomeTags (all left : List (CatchClause ℕ)) (old now : Copier) : Type 0 where
  pub named : List Item
  pub appends : AppendsCopied old (finds named) now
  pub same : named ++ named_by_clauses left ≡ named_by_clauses all

pub one_more_tag :
    (all left rest : List (CatchClause ℕ)) (clause : CatchClause ℕ) (old now new : Copier) → SomeTags all left old now → left ≡ clause ∷ rest →
    AppendsCopied now (finds (named_by_tag clause.tag)) new → SomeTags all rest old new
one_more_tag all left rest clause old now new p e a = record {
  named = p.named ++ named_by_tag clause.tag;
  appends = finds_both old now new p.named (named_by_tag clause.tag) p.appends a;
  same =
      append_assoc p.named (named_by_tag clause.tag) (named_by_clauses rest)
      ∙ ap (λ (l : List (CatchClause ℕ)). p.named ++ named_by_clauses l) (sym e) ∙ p.same;
}

pub all_tags : (all left : List (CatchClause ℕ)) (old now : Copier) → SomeTags all left old now → left ≡ [] → AppendsCopied old (finds (named_by_clauses all)) now
all_tags all left old now p e =
    subst (λ (l : List Item). AppendsCopied old (finds l) now)
    (sym (append-nil p.named) ∙ ap (λ (l : List (CatchClause ℕ)). p.named ++ named_by_clauses l) (sym e) ∙ p.same) p.appends

-- ---- operators

one_more_operator_then :
    (end : ℕ) (text rest next : List ℕ) (os : List RawOperation) (o : RawOperation) → OperatorsThen end text os rest → operator_part end rest ≡ Ok (o, next) →
    OperatorsThen end text (os ++ o ∷ []) next
one_more_operator_then end text rest next [] o p e = (next, ap (operator_part end) p ∙ e, refl)
one_more_operator_then end text rest next (first ∷ os) o p e = (p.0, p.1, one_more_operator_then end p.0 rest next os o p.2 e)

flat_more : {A B : Type 0} (f : A → List B) (xs : List A) (x : A) → flat_map f (xs ++ x ∷ []) ≡ flat_map f xs ++ f x
flat_more f [] x = append-nil (f x)
flat_more {B = B} f (first ∷ xs) x = ap (λ (l : List B). f first ++ l) (flat_more f xs x) ∙ sym (append_assoc (f first) (flat_map f xs) (f x))

takes_both : (a b : List Named) (old mid new : Taken) → TakesFunctions a old mid → TakesFunctions b mid new → TakesFunctions (a ++ b) old new
takes_both a b old mid new p q = record {
  in_bodies = q.in_bodies ∙ ap (λ (l : List Named). l ++ b) p.in_bodies ∙ append_assoc old.in_bodies.items a b;
  outside = q.outside ∙ p.outside;
}

-- what some operators name was found, and the functions to which they refer are taken
pub record SomeNamed (func end : ℕ) (text rest : List ℕ) (old now : Copier × Taken) : Type 0 where
  pub operators : List RawOperation
  pub are : OperatorsThen end text operators rest
  pub appends : AppendsCopied old.0 (finds (flat_map named_by operators)) now.0
  pub takes : TakesFunctions (flat_map (taken_in_body func) operators) old.1 now.1

pub one_more_named :
    (func end other : ℕ) (text rest next : List ℕ) (o : RawOperation) (old now new : Copier × Taken) → SomeNamed func end text rest old now → other ≡ end →
    operator_part other rest ≡ Ok (o, next) → AppendsCopied now.0 (finds (named_by o)) new.0 → TakesFunctions (taken_in_body func o) now.1 new.1 →
    SomeNamed func end text next old new
one_more_named func end other text rest next o old now new p s e a t = record {
  operators = p.operators ++ o ∷ [];
  are = one_more_operator_then end text rest next p.operators o p.are (ap (λ (n : ℕ). operator_part n rest) (sym s) ∙ e);
  appends =
      subst (λ (l : List Item). AppendsCopied old.0 (finds l) new.0) (sym (flat_more named_by p.operators o))
      (finds_both old.0 now.0 new.0 (flat_map named_by p.operators) (named_by o) p.appends a);
  takes =
      subst (λ (l : List Named). TakesFunctions l old.1 new.1) (sym (flat_more (taken_in_body func) p.operators o))
      (takes_both (flat_map (taken_in_body func) p.operators) (taken_in_body func o) old.1 now.1 new.1 p.takes t);
}

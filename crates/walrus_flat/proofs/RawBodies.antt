-- The raw body of an accepted body, from its parts; and why there is none.
use Rattle.std.proofs.Common.{◌≡◌, List, length, map, Ok, Err, refl, ap, subst, ◌∙◌}
use Rattle.wasm_numbers.specs.Results.{◌>>=◌}
use Rattle.walrus_ir.specs.Unfolding.{among}
use Rattle.wasm_encode.specs.Declarations as encoded
use Rattle.wasm_body.specs.SourceTree.{Body}
use Rattle.wasm_body.specs.Naming.{Environment, Occurrence}
use Rattle.wasm_body.specs.NormalForm.{typing_of, name_at, named_body, body_tree}
use Rattle.wasm_body.specs.Bytes.{numbered_text, bytes_of}
use Rattle.wasm_body.specs.LocalNumbers.{AreDeclared, ids_of, uses_local, numbering_locals}
use Rattle.wasm_body.specs.Pairs.{pairs_from, tree_pairs}
use Rattle.wasm_body.specs.TextLaws.{IsNamedBody}
use Rattle.wasm_body.proofs.Bytes.LawfulTyped.{lawful_named}
use Rattle.wasm_body.proofs.Flat.Numbers.{flat_is_numbered}
use Rattle.wasm_body.proofs.Flat.Locals.{locals_read_are_named}
use Rattle.walrus_rewrite.specs.RawBodies.{unwritten}
use Rattle.walrus_rewrite.proofs.ParsedBodies.{no_parsed_body}
use Rattle.walrus_rewrite.proofs.RewrittenLemmas.{keeps_source}
use Rattle.walrus_flat.specs.Laws.{reads_local, HasRawBody, HasNoBodyFor}

-- the locals that live operators name are those of the tree
pub used_are : (env : Environment) (xs : List Occurrence) (b : Body Occurrence) → IsNamedBody (map name_at xs) (named_body b) → reads_local xs ≡ uses_local (body_tree env b)
used_are env xs b named = λ k. λ id. among id (locals_read_are_named (typing_of env) (map name_at xs) (named_body b) named k)

pub has_raw_body : HasRawBody
has_raw_body env xs b spelt lawful by alike others ds are d ys w =
    let m = typing_of env in
    let named = lawful_named env xs b spelt lawful in
    let to = numbering_locals by.to by.args (ids_of others) in
    let whole : numbered_text to (body_tree env b) ≡ Ok ys = flat_is_numbered m (map name_at xs) (named_body b) named.0 named.1 to ∙ w in
    let before = length (encoded.declaration_bytes ds) in
    let pairs : tree_pairs to (body_tree env b) before ≡ Ok (pairs_from before ys) = ap (λ r. r >>= λ zs. Ok (pairs_from before zs)) whole in (
      record {
        others = others;
        are_declared = subst (λ used. AreDeclared by.types by.args used others) (used_are env xs b named.0) are;
        declarations = ds;
        declarations_are = d;
        operators = bytes_of ys;
        operators_are = ap (λ r. r >>= λ zs. Ok (bytes_of zs)) whole;
        bytes_are = refl;
        pairs_are = pairs;
      },
      keeps_source env xs b spelt lawful to alike before (pairs_from before ys) pairs,
    )

pub has_no_body : HasNoBodyFor
has_no_body env xs b spelt lawful by ids others ds are d e w =
    let m = typing_of env in
    let named = lawful_named env xs b spelt lawful in
    let to = numbering_locals by.to by.args (ids_of others) in
    let whole : numbered_text to (body_tree env b) ≡ Err e = flat_is_numbered m (map name_at xs) (named_body b) named.0 named.1 to ∙ w in
    no_parsed_body env xs b spelt lawful by ids e
    (unwritten others ds (subst (λ used. AreDeclared by.types by.args used others) (used_are env xs b named.0) are) d (ap (λ r. r >>= λ zs. Ok (bytes_of zs)) whole))

use Rattle.std.proofs.Common.{inl, inr}
use Rattle.wasm_sections.specs.declared.sections.SectionKind.TheVariants as kind
use Rattle.wasm_sections.specs.References.{index_references, item_references, references_of_each, contents_references}
use Rattle.wasm_sections.specs.Sections.{section_id}
use Rattle.wasm_sections.proofs.ReferenceLemmas.{adds_as, adds_nothing, at_start, IsOfItems, of_items, of_table, of_global, of_export, of_element, refers_to_none}
use Rattle.wasm_sections.proofs.sections.Section.add_references.Goals as goal

pub returns-in-Start : goal.returns-in-Start
returns-in-Start c =
    let k = c.args.self.now.kind in
    let contents = c.args.self.now.contents in
    let new = c.add_index.new in (
      new.self.rest.now,
      adds_as c.args.found.now.items new.found.items new.self.rest.now c.add_index.result (index_references contents.end contents.rest.now)
          (contents_references (section_id k) contents.end contents.rest.now) (at_start k contents.end contents.rest.now c.in-Start.is) c.add_index.ensures.is,
    )

pub returns-in-Table : goal.returns-in-Table
returns-in-Table c =
    let k = c.args.self.now.kind in
    let contents = c.args.self.now.contents in
    let new = c.add_items.new in
    let items : IsOfItems k = elim c.in-Table.is [
      | inl t ↦ of_items k kind.Table t of_table
      | inr others ↦ elim others [
        | inl g ↦ of_items k kind.Global g of_global
        | inr more ↦ elim more [ inl x ↦ of_items k kind.Export x of_export | inr e ↦ of_items k kind.Element e of_element ]
      ]
    ] in (
      new.self.rest.now,
      adds_as c.args.found.now.items new.found.items new.self.rest.now c.add_items.result
          (references_of_each (item_references (section_id k)) contents.end contents.rest.now)
          (contents_references (section_id k) contents.end contents.rest.now) (items contents.end contents.rest.now) c.add_items.ensures.is,
    )

pub returns-in_default : goal.returns-in_default
returns-in_default c =
    let k = c.args.self.now.kind in
    let contents = c.args.self.now.contents in
    let d = c.in_default in (
      contents.rest.now,
      adds_nothing c.args.found.now.items contents.rest.now (contents_references (section_id k) contents.end contents.rest.now)
          (refers_to_none k contents.end contents.rest.now d.not-Start d.not-Table d.not-Global d.not-Export d.not-Element),
    )

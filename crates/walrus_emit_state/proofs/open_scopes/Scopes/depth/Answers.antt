use Rattle.std.proofs.Common.{◌≡◌, ◌-◌, length, None, Some, slice_index_or, sym, ap, ◌∙◌, arith}
use Rattle.wasm_body.specs.Bytes.{in_32_bits}
use Rattle.walrus_emit_state.specs.TreeWriting.Closers.{places_of}
use Rattle.walrus_emit_state.specs.TreeWriting.ScopeLists.{ScopeLists}
use Rattle.walrus_emit_state.specs.TreeWriting.ScopeTables.{depth_in}
use Rattle.walrus_emit_state.proofs.TreeWriting.ScopeTables.{flattened, depth_found, depth_missing}
use Rattle.walrus_emit_state.proofs.open_scopes.Scopes.depth.Goals as goal

pub returns-in_default : goal.returns-in_default
returns-in_default c =
    let s = c.self.inside in
    let place = c.args.place in
    let read = c.get.ensures.lookup.4 (omega arith) None in
    let level = flattened c.copied.result in
    let missing : slice_index_or s.levels.items place None ≡ None = cc in
    sym (depth_missing s.levels.items s.coming.items s.entered.items place c.self.invariant missing)
    ∙ ap (λ (v : ScopeLists). depth_in (places_of v.open_scopes) place) c.self.view_is

pub returns : goal.returns
returns c =
    let s = c.self.inside in
    let place = c.args.place in
    let level = c.in-Some.level in
    let read = c.get.ensures.lookup.4 (omega arith) None in
    let flat = flattened c.copied.result in
    let many = c.len.ensures ∙ s.entered.ok.0 in
    let found : slice_index_or s.levels.items place None ≡ Some level = cc in
    let left : c.saturating_sub-2.result ≡ length s.entered.items - level - 1 = cc in
    c.in_32_bits.ensures
    ∙ ap in_32_bits left
    ∙ sym (depth_found s.levels.items s.coming.items s.entered.items place level c.self.invariant found)
    ∙ ap (λ (v : ScopeLists). depth_in (places_of v.open_scopes) place) c.self.view_is

use Rattle.std.proofs.Common.{refl}
use Rattle.walrus_maps.specs.Environments.{environment_of}
use Rattle.walrus_numbering.specs.NumberMaps.{numbers_by}
use Rattle.tests_body.proofs.ReadBackLemmas.{read_begins, is_written, is_refused, only_bytes, no_fault, fault_not_written, fault_written, fault_read}
use Rattle.tests_body.proofs.read_back.rewritten.Goals as goal

pub written-requires : goal.written-requires
written-requires c =
    let a = c.args in
    read_begins (environment_of a.module.now a.indices.now a.id a.ty) (numbers_by a.module.now.types a.out.now a.locals.now.entries) a.ops.now
    c.in-Ok.function.builder c.in-Ok.ensures.accepted

pub returns-in-Ok-written-clause-written : goal.returns-in-Ok-written-clause-written
returns-in-Ok-written-clause-written c =
    let a = c.args in
    let made = c.in-Ok-written.ensures.ok in
    is_written (environment_of a.module.now a.indices.now a.id a.ty) (numbers_by a.module.now.types a.out.now a.locals.now.entries) a.ops.now
    c.in-Ok.function.builder c.in-Ok.ensures.accepted made.0 made.1 c.in-Ok-written.bytes.items made.2

pub returns-in-Ok-written-clause-each_body : goal.returns-in-Ok-written-clause-each_body
returns-in-Ok-written-clause-each_body c bytes has =
    let a = c.args in
    let made = c.in-Ok-written.ensures.ok in (
      tt,
      only_bytes (environment_of a.module.now a.indices.now a.id a.ty) (numbers_by a.module.now.types a.out.now a.locals.now.entries) a.ops.now
          c.in-Ok.function.builder c.in-Ok.ensures.accepted bytes has made.0 made.1 c.in-Ok-written.bytes.items made.2,
    )

pub returns-in-Ok-written-clause-each_fault : goal.returns-in-Ok-written-clause-each_fault
returns-in-Ok-written-clause-each_fault c e has =
    let a = c.args in
    let made = c.in-Ok-written.ensures.ok in
    absurd (fault_not_written (environment_of a.module.now a.indices.now a.id a.ty) (numbers_by a.module.now.types a.out.now a.locals.now.entries) a.ops.now
    c.in-Ok.function.builder c.in-Ok.ensures.accepted
    (λ locate f fault. let refused = c.in-Ok.ensures.each_fault locate f fault in absurd (let none = refused.0 in cc))
    e has made.0 made.1 c.in-Ok-written.bytes.items made.2)

pub returns-in-Ok-clause-refused : goal.returns-in-Ok-clause-refused
returns-in-Ok-clause-refused c =
    let a = c.args in
    is_refused (environment_of a.module.now a.indices.now a.id a.ty) (numbers_by a.module.now.types a.out.now a.locals.now.entries) a.ops.now
    c.in-Ok.function.builder c.in-Ok.ensures.accepted c.in-Err-written.fault c.in-Err-written.ensures.err

pub returns-in-Ok-clause-each_body : goal.returns-in-Ok-clause-each_body
returns-in-Ok-clause-each_body c bytes has =
    let a = c.args in (
      no_fault (environment_of a.module.now a.indices.now a.id a.ty) (numbers_by a.module.now.types a.out.now a.locals.now.entries) a.ops.now
          c.in-Ok.function.builder c.in-Ok.ensures.accepted bytes has c.in-Err-written.fault c.in-Err-written.ensures.err,
      tt,
    )

pub returns-in-Ok-clause-each_fault : goal.returns-in-Ok-clause-each_fault
returns-in-Ok-clause-each_fault c e has =
    let a = c.args in (
      refl,
      fault_written (environment_of a.module.now a.indices.now a.id a.ty) (numbers_by a.module.now.types a.out.now a.locals.now.entries) a.ops.now
          c.in-Ok.function.builder c.in-Ok.ensures.accepted
          (λ locate f fault. let refused = c.in-Ok.ensures.each_fault locate f fault in absurd (let none = refused.0 in cc))
          e has c.in-Err-written.fault c.in-Err-written.ensures.err,
    )

pub returns-clause-each_body : goal.returns-clause-each_body
returns-clause-each_body c bytes has =
    let everywhere = has.accepted (λ n. n) in
    (c.in-Err.ensures.each_body (λ n. n) (has.body (λ n. n)) everywhere, tt)

pub returns-clause-each_fault : goal.returns-clause-each_fault
returns-clause-each_fault c e has =
    let a = c.args in (
      refl,
      fault_read (environment_of a.module.now a.indices.now a.id a.ty) (numbers_by a.module.now.types a.out.now a.locals.now.entries) a.ops.now c.in-Err.failure
          c.in-Err.ensures.each_body (λ locate f fault. (c.in-Err.ensures.each_fault locate f fault).1) e has,
    )

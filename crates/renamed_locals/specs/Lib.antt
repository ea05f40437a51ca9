-- operators with other locals, and the law
pub mod RenamedLocals
-- the locals that a function declares, and the law that they are renamed
pub mod DeclaredLocals

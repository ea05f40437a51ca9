-- the closers and parts after a place, passed back over one operator, and searches from part to part
mod Tables
-- labels, exceptions, steps and turns
mod Tracing

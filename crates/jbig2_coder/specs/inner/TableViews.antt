-- Custom tables of the code, as lists of codes.
use Rattle.std.specs.Borrow.{Bor}
use Rattle.std.specs.Prelude.{List, map}
use Rattle.jbig2_coder.specs.PrefixCode.{Member}

-- the tables to which the references of a list refer
abbrev pub customs_view : List (Bor (List Member)) → List (List Member)
customs_view customs = map (λ table. table.now) customs

-- The lists that `jbig2-bench lists` encodes and reads back (our own rule). `list_after` takes a length and a seed, and
-- gives this many decisions, each with the number of its context.
use Rattle.std.specs.Prelude.{ℕ, zero, suc, ◌+◌, ◌*◌, ◌/◌, ◌%◌, ◌^◌, Bool, nat_lt, List, [], ◌∷◌}

abbrev pub after : ℕ → ℕ
after x = (1103515245 * x + 12345) % 2 ^ 31

-- The next two numbers make an entry: its context and its decision. The higher the context, the more likely is true.
unfoldable pub entry_after : ℕ → ℕ × Bool
entry_after x =
    let context = after x / 2 ^ 16 % 16 in
    (context, nat_lt (after (after x) / 2 ^ 16 % 256) (17 * context))

unfoldable pub list_after : ℕ → ℕ → List (ℕ × Bool)
list_after zero x = []
list_after (suc n) x = entry_after x ∷ list_after n (after (after x))

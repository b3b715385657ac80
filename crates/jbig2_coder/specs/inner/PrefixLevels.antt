-- How a table is kept: for each length, its lines and how many inner nodes the code's tree has there.
use Rattle.std.specs.Prelude.{◌≡◌, ℕ, zero, suc, ◌+◌, ◌-◌, ◌*◌, ◌/◌, ◌≤◌, nat_lt, List, [], ◌∷◌, ◌++◌, length, take}
use Rattle.std.specs.Prelude.{drop, slice_get, if◌then◌else◌}
use Rattle.jbig2_coder.specs.declared.huffman_table.line.TableLine.{TableLine}
use Rattle.jbig2_coder.specs.declared.huffman_table.levels.Level.{Level}
use Rattle.jbig2_coder.specs.PrefixCode.{Member, CodeReading, shorter, level, line_of, begins_longer}
use Rattle.jbig2_coder.specs.inner.CodeReadings.{found_or, unknown_code, cut_off_code}

-- the lines of each level
abbrev pub groups_of : List TableLine → List Level → List (List TableLine)
groups_of lines [] = []
groups_of lines (v ∷ vs) = take v.count (drop v.first lines) ∷ groups_of lines vs

-- the lines of n lengths from l on
abbrev pub groups : ℕ → ℕ → List TableLine → List (List TableLine)
groups zero l lines = []
groups (suc n) l lines = level l lines ∷ groups n (l + 1) lines

-- the codes n, n + 1 and so on, of l bits
abbrev pub codes_of_length : ℕ → ℕ → List TableLine → List Member
codes_of_length l n [] = []
codes_of_length l n (x ∷ xs) = record { bits = l; number = n; line = x } ∷ codes_of_length l (n + 1) xs

-- the codes of n lengths from l on
abbrev pub codes_from : ℕ → ℕ → List TableLine → List Member
codes_from zero l lines = []
codes_from (suc n) l lines = codes_of_length l (shorter l lines) (level l lines) ++ codes_from n (l + 1) lines

-- A read bit by bit: k bits of a code are taken, and they make the number v.
abbrev pub read_on : List Member → ℕ → ℕ → List ℕ → CodeReading TableLine
read_on ms k v [] = cut_off_code (k + 1)
read_on ms k v (b ∷ bits) =
    found_or (line_of ms (k + 1) (2 * v + b)) (k + 1)
    (if begins_longer ms (k + 1) (2 * v + b) then read_on ms (k + 1) (2 * v + b) bits else unknown_code (k + 1))

-- how many inner nodes are above the groups, if each has at most two children
abbrev pub nodes : List (List TableLine) → ℕ
nodes [] = 0
nodes (g ∷ gs) = (length g + nodes gs + 1) / 2

-- the members, after b codes of k bits are used
abbrev pub codes_at : ℕ → ℕ → List (List TableLine) → List Member
codes_at k b [] = []
codes_at k b (g ∷ gs) = codes_of_length (k + 1) (2 * b) g ++ codes_at (k + 1) (2 * b + length g) gs

-- The walk down the groups: d is the number of the inner node, and k bits are taken.
abbrev pub walk : List (List TableLine) → ℕ → ℕ → List ℕ → CodeReading TableLine
walk gs k d [] = cut_off_code (k + 1)
walk [] k d (b ∷ bits) = unknown_code (k + 1)
walk (g ∷ gs) k d (b ∷ bits) =
    found_or (slice_get g (2 * d + b)) (k + 1)
    (if nat_lt (2 * d + b - length g) (nodes gs) then walk gs (k + 1) (2 * d + b - length g) bits
    else unknown_code (k + 1))

-- the walk from a node down the levels
abbrev pub walk_of : List TableLine → List Level → ℕ → List ℕ → CodeReading TableLine
walk_of lines levels node bits = walk (groups_of lines levels) 0 node bits

-- levels that lie within the lines and have the right numbers of nodes
abbrev pub AreLevels : List TableLine → List Level → Type 0
AreLevels lines [] = Unit {0}
AreLevels lines (v ∷ vs) =
    (v.first + v.count ≤ length lines) × (v.nodes ≡ nodes (groups_of lines vs)) × (v.count + v.nodes ≤ length lines) × AreLevels lines vs

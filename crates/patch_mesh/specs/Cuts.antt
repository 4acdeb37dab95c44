-- How an edge is cut into parts, and the numbers that count them.
use Rattle.std.specs.Prelude.{ℕ, ◌+◌, ◌*◌, ◌-◌, ◌/◌, List}
use Rattle.std.specs.List.{range_with_len}

-- in how many parts an edge is cut, none of them longer than `longest`: the quotient rounded up
abbrev pub parts : ℕ → ℕ → ℕ
parts longest edge = (edge + (longest - 1)) / longest

-- where part i of an edge in k parts begins, and part i - 1 ends
abbrev pub cut : ℕ → ℕ → ℕ → ℕ
cut edge k i = i * edge / k

-- the length of part i
abbrev pub part_length : ℕ → ℕ → ℕ → ℕ
part_length edge k i = cut edge k (i + 1) - cut edge k i

-- 0, 1, .., n - 1
abbrev pub below : ℕ → List ℕ
below n = range_with_len 0 n

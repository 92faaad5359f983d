-- Numbers from 1 to a limit, as document 01 numbers whatever it counts, and lists numbered so.
use Rattle.std.specs.Prelude.{ℕ, zero, suc, Bool, ◌&&◌, List, Option, None, slice_index_or, slice_set, slice_get, nat_le}

-- k is a number from 1 to the limit
unfoldable pub is_within : ℕ → ℕ → Bool
is_within limit k = nat_le 1 k && nat_le k limit

-- element k, where there is one
unfoldable pub get : {A : Type 0} → List A → ℕ → Option A
get xs zero = None
get xs (suc k) = slice_get xs k

-- element k, or d where there is none
unfoldable pub nth : {A : Type 0} → List A → ℕ → A → A
nth xs zero d = d
nth xs (suc k) d = slice_index_or xs k d

-- the list with a as element k, or unchanged where there is no element k
unfoldable pub set_nth : {A : Type 0} → List A → ℕ → A → List A
set_nth xs zero a = xs
set_nth xs (suc k) a = slice_set xs k a

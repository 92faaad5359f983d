-- What private calls alone promise by; whoever believes the open calls need not read it. It is what the program carries over
-- the rounds in place of the test which values are allowed.
use Rattle.std.specs.Prelude.{ℕ, Bool, false, ◌==◌, ◌&&◌, not}
use Rattle.signer.specs.Log.{entry_of}
use Rattle.delivery.specs.declared.allowance.Allowance.{Allowance}
use Rattle.delivery.specs.declared.allowance.Allowance.TheVariants.{Nothing, Every, Only}

-- the value w is allowed
unfoldable pub lets : Allowance → ℕ → Bool
lets Nothing w = false
lets Every w = not (w == 0)
lets (Only x) w = not (w == 0) && x == entry_of w

-- What a tick drops.
use Rattle.std.specs.Prelude.{◌≡◌, ℕ, List}
use Rattle.clnp_segment.specs.declared.store.Expired.{Expired}
use Rattle.esis_tables.specs.Rows.{Rows, swept_table}
use Rattle.clnp_system.specs.Node.{Node}
use Rattle.clnp_system.specs.Ticking.{ExpiresAll}

-- what is known of others is swept, and what expired is given up
pub record Flushes (old : Node Rows) (now : ℕ) (expired : List Expired) (new : Node Rows) : Type 0 where
  pub expires : ExpiresAll old.store now expired new.store
  pub after : new ≡ record old { clock = now; store = new.store; neighbours = swept_table old.neighbours now; redirects = swept_table old.redirects now }

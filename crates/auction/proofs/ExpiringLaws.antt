-- What an uncross takes out, without a price and with one.
use Rattle.std.proofs.Common.{◌≡◌, false, [], ◌++◌, Some, None, cond, ap, ◌∙◌}
use Rattle.auction_terms.specs.declared.AuctionKind.{AuctionKind}
use Rattle.auction_terms.specs.declared.Config.{Config}
use Rattle.auction_terms.specs.declared.Price.{Price}
use Rattle.auction_terms.specs.Allotment.{rest_in, trades}
use Rattle.auction_terms.specs.AuctionPrice.{price}
use Rattle.auction_terms.specs.Book.{auction_orders}
use Rattle.auction_terms.specs.Day.{State, is_interrupted}
use Rattle.auction_terms.specs.Priority.{expiring_at, expiring_in, listed, orders_expiring, restricted_to}

module _ (config : Config) (state : State) (kind : AuctionKind) (current : state.auction ≡ Some kind) where
  pub expiring_without_price : price (auction_orders state.book kind) state.reference ≡ None
      → orders_expiring config state ≡ restricted_to kind (listed None state.book state.tape)
  unfolding orders_expiring
  expiring_without_price none = ap (expiring_in config state) current ∙ ap (expiring_at config state kind) none

  pub expiring_at_price : (priced : Price) → price (auction_orders state.book kind) state.reference ≡ Some priced
      → is_interrupted config state priced.tick ≡ false
      → orders_expiring config state
      ≡ restricted_to kind
      (listed None (rest_in kind state.book priced.tick)
      (state.tape ++ trades (auction_orders state.book kind) priced.tick))
  unfolding orders_expiring
  expiring_at_price priced found goes_on =
      ap (expiring_in config state) current ∙ ap (expiring_at config state kind) found
      ∙ ap (λ b. cond b [] (restricted_to kind
      (listed None (rest_in kind state.book priced.tick)
      (state.tape ++ trades (auction_orders state.book kind) priced.tick)))) goes_on

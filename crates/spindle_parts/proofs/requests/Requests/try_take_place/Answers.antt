use Rattle.std.proofs.Common.{rules}
use Rattle.spindle_parts.proofs.requests.Requests.try_take_place.Goals as goal

pub returns-then-unfilled-eq0-clause-step : goal.returns-then-unfilled-eq0-clause-step
returns-then-unfilled-eq0-clause-step c = search rules

pub returns-then-exchange_place-unfilled-clause-step : goal.returns-then-exchange_place-unfilled-clause-step
returns-then-exchange_place-unfilled-clause-step c = search rules

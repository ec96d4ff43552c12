use Rattle.spindle_parts.proofs.requests.Requests.announce_exit.Goals as goal

pub returns-clause-step : goal.returns-clause-step
returns-clause-step c = c.store_flag.ensures.step

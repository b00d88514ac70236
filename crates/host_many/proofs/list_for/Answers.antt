-- `host_many::list_for` meets its contract: the list that is put is the card's. Assumes nothing.
use Rattle.step_list.proofs.Cards.{list_asked}
use Rattle.step_run.proofs.Runs.{ListReady, list_ready}
use Rattle.host_many.proofs.list_for.Goals as goal
use Rattle.host_many.proofs.list_for.Goals.{After-put_list}

ready : (c : After-put_list) → ListReady c.args.s.now c.put_list.new.nets c.put_list.new.times c.put_list.result
ready c = list_ready c.args.s.now c.requires.held c.put_list.ensures c.requires.nets_len.0 c.requires.nets_len.1

pub put_list-requires-clause-gates_bound : goal.put_list-requires-clause-gates_bound
put_list-requires-clause-gates_bound c = list_asked c.args.s.now c.requires.held

pub returns-in-Steps-clause-few : goal.returns-in-Steps-clause-few
returns-in-Steps-clause-few c = (ready (goal.at.returns-in-Steps-clause-few c).After-put_list).few

pub returns-in-Steps-clause-listed : goal.returns-in-Steps-clause-listed
returns-in-Steps-clause-listed c = let named = (ready (goal.at.returns-in-Steps-clause-listed c).After-put_list).named in λ e. named

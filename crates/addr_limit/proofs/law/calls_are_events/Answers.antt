use Rattle.std.proofs.Common.{length}
use Rattle.addr_limit.proofs.Changes.{open-is, close-is, getaddr-is, enough_words, taken-is}
use Rattle.addr_limit.proofs.law.calls_are_events.Goals as goal

pub returns-clause-opens : goal.returns-clause-opens
returns-clause-opens c = λ st number addr unlimited rising. open-is st.clock number st.conns rising addr unlimited

pub returns-clause-closes : goal.returns-clause-closes
returns-clause-closes c = λ st number. close-is st.clock number st.conns

pub returns-clause-getaddr : goal.returns-clause-getaddr
returns-clause-getaddr c = λ st number rising. getaddr-is st.clock number st.conns rising

pub returns-clause-message : goal.returns-clause-message
returns-clause-message c = λ st number entries words rising enough.
    taken-is st.clock number st.conns rising entries words (enough_words (length entries) (length words) enough)

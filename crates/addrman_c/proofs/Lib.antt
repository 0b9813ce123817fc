pub mod OnHandles
